-- The members of a column that are read are what the bytes encode, and the other way round.
use Rattle.std.proofs.Common.{◌≡◌, ◌↔◌, ℕ, zero, suc, List, [], ◌∷◌, ◌++◌, length, Ok, refl, sym, ap, subst, ◌∙◌, append_assoc}
use Rattle.wire_buf.specs.Encoding.{Begins}
use Rattle.wire_buf.specs.Numbers.{IsLenenc}
use Rattle.rows_table_map.specs.Entries.{lenenc_at, string_at}
use Rattle.rows_table_map.specs.Members.{AreStrings, MembersEncoding, strings_in, members_at}
use Rattle.rows_table_map.proofs.EntryLemmas.{bind-ok, ok_pair, number-is, number-here}
use Rattle.rows_table_map.proofs.LawLemmas.{string-law}

strings-is : (n : ℕ) (x : List ℕ) (y : List (List ℕ) × List ℕ) → strings_in n x ≡ Ok y → (n ≡ length y.0) × ((own : List ℕ) × (x ≡ own ++ y.1) × AreStrings y.0 own)
unfolding strings_in
strings-is zero x y h = let p = ok_pair [] x y h in (ap length p.0, ([], p.1, subst (λ (vs : List (List ℕ)). AreStrings vs []) p.0 refl))
strings-is (suc n) x y h =
    let a = bind-ok (string_at x) _ y h in
    let b = bind-ok (strings_in n a.0.1) _ y a.2 in
    let p = ok_pair (a.0.0 ∷ b.0.0) b.0.1 y b.2 in
    let first = (string-law a.0.0 x a.0.1).0 a.1 in
    let more = strings-is n a.0.1 b.0 b.1 in (
      ap suc more.0 ∙ ap length p.0,
      (
        first.bytes ++ more.1.0,
        first.joined ∙ ap (λ (r : List ℕ). first.bytes ++ r) (more.1.1 ∙ ap (λ (r : List ℕ). more.1.0 ++ r) p.1) ∙ sym (append_assoc first.bytes more.1.0 y.1),
        subst (λ (vs : List (List ℕ)). AreStrings vs (first.bytes ++ more.1.0)) p.0 (first.bytes, more.1.0, refl, first.is, more.1.2),
      ),
    )

strings-here : (vs : List (List ℕ)) (own rest : List ℕ) → AreStrings vs own → strings_in (length vs) (own ++ rest) ≡ Ok (vs, rest)
unfolding strings_in
strings-here [] own rest h = rw h refl
strings-here (v ∷ vs) own rest h =
    let first : string_at (h.0 ++ (h.1 ++ rest)) ≡ Ok (v, h.1 ++ rest) = (string-law v (h.0 ++ (h.1 ++ rest)) (h.1 ++ rest)).1 (record { bytes = h.0; joined = refl; is = h.3 }) in
    rw (h.2, append_assoc h.0 h.1 rest, first, strings-here vs h.1 rest h.4) refl

members-is : (v : List (List ℕ)) (bytes rest : List ℕ) → members_at bytes ≡ Ok (v, rest) → Begins (MembersEncoding v) bytes rest
members-is v bytes rest h =
    let n = bind-ok (lenenc_at bytes) _ (v, rest) h in
    let s = strings-is n.0.0 n.0.1 (v, rest) n.2 in
    let b = number-is bytes n.0 n.1 in
    record {
      bytes = b.bytes ++ s.1.0;
      joined = b.joined ∙ ap (λ (r : List ℕ). b.bytes ++ r) s.1.1 ∙ sym (append_assoc b.bytes s.1.0 rest);
      is = record { count = b.bytes; strings = s.1.0; joined = refl; count_is = subst (λ (k : ℕ). IsLenenc k b.bytes) s.0 b.is; strings_are = s.1.2 };
    }

members-here : (v : List (List ℕ)) (bytes rest : List ℕ) → Begins (MembersEncoding v) bytes rest → members_at bytes ≡ Ok (v, rest)
members-here v bytes rest h =
    let count : lenenc_at bytes ≡ Ok (length v, h.is.strings ++ rest) = number-here (length v) bytes (h.is.strings ++ rest) (record { bytes = h.is.count; joined = h.joined ∙ ap (λ (b : List ℕ). b ++ rest) h.is.joined ∙ append_assoc h.is.count h.is.strings rest; is = h.is.count_is }) in
    rw count (strings-here v h.is.strings rest h.is.strings_are)

pub members-law : (v : List (List ℕ)) (bytes rest : List ℕ) → (members_at bytes ≡ Ok (v, rest)) ↔ Begins (MembersEncoding v) bytes rest
members-law v bytes rest = (members-is v bytes rest, members-here v bytes rest)
