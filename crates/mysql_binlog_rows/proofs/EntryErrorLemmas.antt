-- The error for bytes that don't begin with an entry.
use Rattle.std.proofs.Common.{◌≡◌, ◌⊎◌, inl, inr, ℕ, Bool, true, false, cond, leb, List, length, take, drop, Option, Some, None, Ok, Err, refl, sym, ap, ◌∙◌}
use Rattle.wire_buf.specs.Encoding.{Lacks}
use Rattle.wire_buf.specs.LenencSplit.{split_lenenc}
use Rattle.wire_buf.proofs.LenencLemmas.{lenenc_lacks}
use Rattle.wire_fields.specs.IntFaults.{lenenc_fault}
use Rattle.rows_errors.specs.ConvertedFaults.{rows_error}
use Rattle.rows_errors.specs.declared.fault.RowsError.{RowsError}
use Rattle.rows_errors.specs.declared.fault.RowsError.TheVariants.{EndOfBody}
use Rattle.rows_errors.specs.Readings.{Reading, ◌>>=◌}
use Rattle.rows_table_map.specs.Entries.{NumberEncoding, StringEncoding, PairEncoding, found, lenenc_at, string_at, pair_at}
use Rattle.rows_table_map.specs.EntryErrors.{NumberEntryFails, StringEntryFails, PairEntryFails}
use Rattle.rows_table_map.proofs.EntryLemmas.{number-is, number-here, number_missing}
use Rattle.rows_table_map.proofs.LawLemmas.{string-law}

err_same : {A : Type 0} (e f : RowsError) → ◌≡◌ {A = Reading A} (Err e) (Err f) → f ≡ e
err_same e f h = cc

number-err : (x : List ℕ) (e : RowsError) (o : Option (ℕ × List ℕ)) → split_lenenc x ≡ o → found (rows_error (lenenc_fault x)) o ≡ Err e → NumberEntryFails x e
number-err x e None is h = (lenenc_lacks x is, err_same {A = ℕ × List ℕ} _ e h)
number-err x e (Some p) is h = absurd cc

pub number-failed : (x : List ℕ) (e : RowsError) → lenenc_at x ≡ Err e → NumberEntryFails x e
number-failed x e h = number-err x e (split_lenenc x) refl h

number-none : (x : List ℕ) (e : RowsError) → NumberEntryFails x e → lenenc_at x ≡ Err e
number-none x e h = number_missing x h.0 ∙ ap (λ (f : RowsError). Err f) (sym h.1)

split_at-err : (t : Bool) (a : List ℕ × List ℕ) (e : RowsError) → cond t (Ok a) (Err EndOfBody) ≡ Err e → e ≡ EndOfBody
split_at-err true a e h = absurd cc
split_at-err false a e h = err_same {A = List ℕ × List ℕ} EndOfBody e h

bind-err : {A B : Type 0} (o : Reading A) (f : A → Reading B) (e : RowsError) → (o >>= f) ≡ Err e → (o ≡ Err e) ⊎ ((x : A) × (o ≡ Ok x) × (f x ≡ Err e))
bind-err {A = A} {B = B} (Err g) f e h = inl (ap (λ (k : RowsError). Err k) (sym (err_same {A = B} g e h)))
bind-err (Ok x) f e h = inr (x, refl, h)

no_more : {A B : Type 0} (a : A) (b : B) (e : RowsError) → (let found : Reading (A × B) = Ok (a, b) in found ≡ Err e) → ⊥
no_more a b e h = absurd cc

pub string-failed : (x : List ℕ) (e : RowsError) → string_at x ≡ Err e → StringEntryFails x e
string-failed x e h = elim (bind-err (lenenc_at x) _ e h) [
  | inl n ↦ inl (number-failed x e n)
  | inr n ↦ inr (record { value = n.0.0; after = n.0.1; begins = number-is x n.0 n.1 }, split_at-err _ (take n.0.0 n.0.1, drop n.0.0 n.0.1) e n.2)
]

pub pair-failed : (x : List ℕ) (e : RowsError) → pair_at x ≡ Err e → PairEntryFails x e
pair-failed x e h = elim (bind-err (lenenc_at x) _ e h) [
  | inl n ↦ inl (number-failed x e n)
  | inr n ↦ elim (bind-err (lenenc_at n.0.1) _ e n.2) [
    | inl m ↦ inr (record { value = n.0.0; after = n.0.1; begins = number-is x n.0 n.1; holds = number-failed n.0.1 e m })
    | inr m ↦ absurd (no_more (n.0.0, m.0.0) m.0.1 e m.2)
  ]
]

pub pair-why : (x : List ℕ) (e : RowsError) → Lacks PairEncoding x → PairEntryFails x e → pair_at x ≡ Err e
pair-why x e lacks (inl h) = rw (number-none x e h) refl
pair-why x e lacks (inr h) = rw (number-here h.value x h.after h.begins, number-none h.after e h.holds) refl

pub number-why : (x : List ℕ) (e : RowsError) → Lacks NumberEncoding x → NumberEntryFails x e → lenenc_at x ≡ Err e
number-why x e lacks h = number-none x e h

too_short : (x : List ℕ) (n : ℕ) (after : List ℕ) (t : Bool) → leb n (length after) ≡ t → lenenc_at x ≡ Ok (n, after) → Lacks StringEncoding x → string_at x ≡ Err EndOfBody
too_short x n after true is h lacks =
    let whole : string_at x ≡ Ok (take n after, drop n after) = rw (h, is) refl in
    absurd (lacks (take n after) (drop n after) ((string-law (take n after) x (drop n after)).0 whole))
too_short x n after false is h lacks = rw (h, is) refl

pub string-why : (x : List ℕ) (e : RowsError) → Lacks StringEncoding x → StringEntryFails x e → string_at x ≡ Err e
string-why x e lacks (inl h) = rw (number-none x e h) refl
string-why x e lacks (inr h) =
    too_short x h.0.value h.0.after (leb h.0.value (length h.0.after)) refl (number-here h.0.value x h.0.after h.0.begins) lacks ∙ ap (λ (f : RowsError). Err f) (sym h.1)
