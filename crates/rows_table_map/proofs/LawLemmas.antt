-- Entries that are read are what the bytes encode, and the other way round; the items of a list are its entries.
use Rattle.std.proofs.Common.{◌≡◌, ◌↔◌, ℕ, List, [], ◌∷◌, ◌++◌, length, get_or, Ok, refl, sym, ap, subst, ◌∙◌, arith, append_assoc}
use Rattle.wire_buf.specs.Encoding.{Begins}
use Rattle.wire_buf.specs.Numbers.{IsLenenc}
use Rattle.rows_table_map.specs.Entries.{NumberEncoding, StringEncoding, PairEncoding, split_at, lenenc_at, string_at, pair_at}
use Rattle.rows_table_map.specs.MetadataFields.{FieldEncoding, tagged_at}
use Rattle.rows_table_map.proofs.EntryLemmas.{bind-ok, ok_pair, split_at-is, split_at-here, number-is, number-here}

-- ---- entries

pub number-law : (v : ℕ) (bytes rest : List ℕ) → (lenenc_at bytes ≡ Ok (v, rest)) ↔ Begins (NumberEncoding v) bytes rest
number-law v bytes rest = (λ h. number-is bytes (v, rest) h, λ h. number-here v bytes rest h)

string-is : (v bytes rest : List ℕ) → string_at bytes ≡ Ok (v, rest) → Begins (StringEncoding v) bytes rest
string-is v bytes rest h =
    let n = bind-ok (lenenc_at bytes) _ (v, rest) h in
    let f = split_at-is n.0.0 n.0.1 (v, rest) n.2 in
    let b = number-is bytes n.0 n.1 in
    record {
      bytes = b.bytes ++ v;
      joined = b.joined ∙ ap (λ (r : List ℕ). b.bytes ++ r) f.0 ∙ sym (append_assoc b.bytes v rest);
      is = record { prefix = b.bytes; prefix_is = subst (λ (k : ℕ). IsLenenc k b.bytes) (sym f.1) b.is; joined = refl };
    }

string-here : (v bytes rest : List ℕ) → Begins (StringEncoding v) bytes rest → string_at bytes ≡ Ok (v, rest)
string-here v bytes rest h =
    let count : lenenc_at bytes ≡ Ok (length v, v ++ rest) = number-here (length v) bytes (v ++ rest) (record { bytes = h.is.prefix; joined = h.joined ∙ ap (λ (b : List ℕ). b ++ rest) h.is.joined ∙ append_assoc h.is.prefix v rest; is = h.is.prefix_is }) in
    rw count (split_at-here (length v) v rest refl)

pub string-law : (v bytes rest : List ℕ) → (string_at bytes ≡ Ok (v, rest)) ↔ Begins (StringEncoding v) bytes rest
string-law v bytes rest = (string-is v bytes rest, string-here v bytes rest)

pair-is : (v : ℕ × ℕ) (bytes rest : List ℕ) → pair_at bytes ≡ Ok (v, rest) → Begins (PairEncoding v) bytes rest
pair-is v bytes rest h =
    let a = bind-ok (lenenc_at bytes) _ (v, rest) h in
    let b = bind-ok (lenenc_at a.0.1) _ (v, rest) a.2 in
    let p = ok_pair (a.0.0, b.0.0) b.0.1 (v, rest) b.2 in
    let first = number-is bytes a.0 a.1 in
    let second = number-is a.0.1 b.0 b.1 in
    subst (λ (w : ℕ × ℕ). Begins (PairEncoding w) bytes rest) p.0 (subst (λ (r : List ℕ). Begins (PairEncoding (a.0.0, b.0.0)) bytes r) p.1 (record {
      bytes = first.bytes ++ second.bytes;
      joined = first.joined ∙ ap (λ (r : List ℕ). first.bytes ++ r) second.joined ∙ sym (append_assoc first.bytes second.bytes b.0.1);
      is = record { prefix = first.bytes; suffix = second.bytes; joined = refl; first_is = first.is; second_is = second.is };
    }))

pair-here : (v : ℕ × ℕ) (bytes rest : List ℕ) → Begins (PairEncoding v) bytes rest → pair_at bytes ≡ Ok (v, rest)
pair-here v bytes rest h =
    let first : lenenc_at bytes ≡ Ok (v.0, h.is.suffix ++ rest) = number-here v.0 bytes (h.is.suffix ++ rest) (record { bytes = h.is.prefix; joined = h.joined ∙ ap (λ (b : List ℕ). b ++ rest) h.is.joined ∙ append_assoc h.is.prefix h.is.suffix rest; is = h.is.first_is }) in
    let second : lenenc_at (h.is.suffix ++ rest) ≡ Ok (v.1, rest) = number-here v.1 (h.is.suffix ++ rest) rest (record { bytes = h.is.suffix; joined = refl; is = h.is.second_is }) in
    rw (first, second) refl

pub pair-law : (v : ℕ × ℕ) (bytes rest : List ℕ) → (pair_at bytes ≡ Ok (v, rest)) ↔ Begins (PairEncoding v) bytes rest
pair-law v bytes rest = (pair-is v bytes rest, pair-here v bytes rest)

single : (l : List ℕ) → length l ≡ 1 → l ≡ get_or l 0 0 ∷ []
single [] h = absurd (omega (arith, h))
single (b ∷ []) h = refl
single (b ∷ (d ∷ l)) h = absurd (omega (arith, h))

tagged-is : (v : ℕ × List ℕ) (bytes rest : List ℕ) → tagged_at bytes ≡ Ok (v, rest) → Begins (FieldEncoding v) bytes rest
tagged-is v bytes rest h =
    let a = bind-ok (split_at 1 bytes) _ (v, rest) h in
    let b = bind-ok (string_at a.0.1) _ (v, rest) a.2 in
    let p = ok_pair (get_or a.0.0 0 0, b.0.0) b.0.1 (v, rest) b.2 in
    let tag = split_at-is 1 bytes a.0 a.1 in
    let value = string-is b.0.0 a.0.1 b.0.1 b.1 in
    subst (λ (w : ℕ × List ℕ). Begins (FieldEncoding w) bytes rest) p.0 (subst (λ (r : List ℕ). Begins (FieldEncoding (get_or a.0.0 0 0, b.0.0)) bytes r) p.1 (record {
      bytes = a.0.0 ++ value.bytes;
      joined = tag.0 ∙ ap (λ (r : List ℕ). a.0.0 ++ r) value.joined ∙ sym (append_assoc a.0.0 value.bytes b.0.1);
      is = record { prefix = a.0.0; suffix = value.bytes; joined = refl; first_is = single a.0.0 tag.1; second_is = value.is };
    }))

tagged-here : (v : ℕ × List ℕ) (bytes rest : List ℕ) → Begins (FieldEncoding v) bytes rest → tagged_at bytes ≡ Ok (v, rest)
tagged-here v bytes rest h =
    let whole : bytes ≡ (v.0 ∷ []) ++ (h.is.suffix ++ rest) = h.joined ∙ ap (λ (b : List ℕ). b ++ rest) h.is.joined ∙ append_assoc h.is.prefix h.is.suffix rest ∙ ap (λ (b : List ℕ). b ++ (h.is.suffix ++ rest)) h.is.first_is in
    let tag : split_at 1 bytes ≡ Ok (v.0 ∷ [], h.is.suffix ++ rest) = ap (split_at 1) whole ∙ split_at-here 1 (v.0 ∷ []) (h.is.suffix ++ rest) refl in
    let value : string_at (h.is.suffix ++ rest) ≡ Ok (v.1, rest) = string-here v.1 (h.is.suffix ++ rest) rest (record { bytes = h.is.suffix; joined = refl; is = h.is.second_is }) in
    rw (tag, value) refl

pub tagged-law : (v : ℕ × List ℕ) (bytes rest : List ℕ) → (tagged_at bytes ≡ Ok (v, rest)) ↔ Begins (FieldEncoding v) bytes rest
tagged-law v bytes rest = (tagged-is v bytes rest, tagged-here v bytes rest)
