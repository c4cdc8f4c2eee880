-- Entries and lists that are read as fields are what the bytes encode.
use Rattle.std.proofs.Common.{◌≡◌, ◌↔◌, ℕ, List, [], ◌++◌, Option, Result, Ok, Err, IfOk, IfErr, ◌⊎◌, inr, refl, sym, ap, ◌∙◌, append-nil}
use Rattle.wire_buf.specs.Writing.{WritesField}
use Rattle.wire_buf.specs.Encoding.{Begins, Reads, Lacks}
use Rattle.wire_fields.specs.ByteStrings.{IsAll}
use Rattle.wire_buf.proofs.EncodingLemmas.{Reads-both, Lacks-both_first}
use Rattle.rows_errors.specs.declared.fault.RowsError.{RowsError}
use Rattle.rows_errors.specs.declared.fault.RowsError.TheVariants.{Memory}
use Rattle.rows_errors.specs.Readings.{Reading, map_reading}
use Rattle.rows_table_map.specs.declared.charsets.DefaultCharset.{DefaultCharset}
use Rattle.rows_table_map.specs.MetadataViews.{default_charset_view}
use Rattle.rows_table_map.specs.Entries.{NumberEncoding, lenenc_at}
use Rattle.rows_table_map.specs.FieldEncodings.{DefaultEncoding}
use Rattle.rows_table_map.proofs.EntryLemmas.{ok_pair}
use Rattle.rows_table_map.proofs.LawLemmas.{number-law}

-- reading by a function that finds exactly what the bytes encode
module _ {A : Type 0} (encodes : A → List ℕ → List ℕ → Type 0) (found : List ℕ → Reading (A × List ℕ))
    (law : (v : A) (bytes rest : List ℕ) → (found bytes ≡ Ok (v, rest)) ↔ Begins (encodes v) bytes rest) where
  pub entry_read : (v : A) (x r : List ℕ) → found x ≡ Ok (v, r) → Reads encodes v x r
  entry_read v x r h = record {
    begins = (law v x r).0 h;
    only = λ w s t. let p = ok_pair v r (w, s) (sym h ∙ (law w x s).1 t) in (sym p.1, p.0);
  }

  pub entry_failed : (e : RowsError) (x : List ℕ) → found x ≡ Err e → Lacks encodes x
  entry_failed e x h v r t =
      let both : ◌≡◌ {A = Reading (A × List ℕ)} (Err e) (Ok (v, r)) = sym h ∙ (law v x r).1 t in
      absurd (cc both)

pub all_read : (x : List ℕ) → Reads IsAll x x []
all_read x = record {
  begins = record { bytes = x; joined = sym (append-nil x); is = record { bytes_are = refl; ends = refl } };
  only = λ w s t. (
    t.is.ends,
    t.joined ∙ ap (λ (r : List ℕ). t.bytes ++ r) t.is.ends ∙ append-nil t.bytes ∙ sym t.is.bytes_are,
  );
}

pub default_read : (n : ℕ) (x r : List ℕ) → lenenc_at x ≡ Ok (n, r) → Reads DefaultEncoding (n, r) x []
default_read n x r h = Reads-both NumberEncoding IsAll n r x r [] (entry_read NumberEncoding lenenc_at number-law n x r h) (all_read r)

pub default_failed : (e : RowsError) (x : List ℕ) → lenenc_at x ≡ Err e → Lacks DefaultEncoding x
default_failed e x h = Lacks-both_first NumberEncoding IsAll x (entry_failed NumberEncoding lenenc_at number-law e x h)

-- the same for equal components
pub pair_same : {A B : Type 0} {encoded : A × B → Option (List ℕ)} {encoding : A × B → List ℕ → List ℕ → Type 0} {allows_rest : List ℕ → Type 0} {old new : List ℕ} (a c : A) (b d : B)
    → a ≡ c → b ≡ d → WritesField encoded encoding allows_rest (a, b) old new → WritesField encoded encoding allows_rest (c, d) old new
pair_same a c b d p q h = rw (← p, ← q) h

-- the result for the bytes of a default charset
pub default_if_ok : (x : List ℕ) (r : Result DefaultCharset RowsError) → map_reading default_charset_view r ≡ lenenc_at x → IfOk r (λ d. Reads DefaultEncoding (default_charset_view d) x [])
default_if_ok x (Ok d) h = default_read d.default_charset x d.non_default.now (sym h)
default_if_ok x (Err e) h = tt

pub default_if_err : (x : List ℕ) (r : Result DefaultCharset RowsError) → map_reading default_charset_view r ≡ lenenc_at x → IfErr r (λ e. e ≡ Memory ⊎ Lacks DefaultEncoding x)
default_if_err x (Ok d) h = tt
default_if_err x (Err e) h = inr (default_failed e x (sym h))
