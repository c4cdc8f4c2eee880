-- Packed decimals are read back.
use Rattle.std.proofs.Common.{◌≡◌, ◌≤◌, ◌<◌, ◌+◌, ◌-◌, ◌%◌, ◌++◌, Bool, true, false, ℕ, zero, suc, List, [], ◌∷◌, length, take, drop, get_or, inl, inr, arith, refl, sym, ap, subst, ◌∙◌, Ordering}
use Rattle.std.specs.Ordering.{nat_cmp, ordering_then}
use Rattle.std.specs.declared.cmp.Ordering.TheVariants.{Equal}
use Rattle.std.specs.Cmp.Lexicographic.{slice_cmp}
use Rattle.std.specs.FinMap.{slice_cmp-IsAntisymmetric, nat_cmp-IsAntisymmetric}
use Rattle.std.proofs.Math.Seq.{take-append_seam, drop-append_seam}
use Rattle.std.proofs.lemmas.Bool.Decides.{eqb_tells}
use Rattle.rows_values.specs.Digits.{AreDigits, side_size, before_bytes, after_bytes, top_flipped, signed, has_minus_bit}
use Rattle.rows_values.specs.Decimals.{DecimalParts, IsPacked, Unpacks, normalized, zero_value, without_zero_nines}
use Rattle.rows_values.proofs.UnpackLemmas.{plain_of, length-before, sides_low, below-128, above-128}
use Rattle.rows_values.proofs.OrderLemmas.{self_equal}
use Rattle.rows_values.proofs.NumericLemmas.{before_cmp, after_cmp, sides_some}

same_list : (xs : List ℕ) → slice_cmp nat_cmp xs xs ≡ Equal
same_list [] = refl
same_list (x ∷ xs) = ap (λ (o : Ordering). ordering_then o (slice_cmp nat_cmp xs xs)) (self_equal x) ∙ same_list xs

list_once : (xs ys : List ℕ) → slice_cmp nat_cmp xs ys ≡ Equal → xs ≡ ys
list_once xs ys e = slice_cmp-IsAntisymmetric nat_cmp-IsAntisymmetric xs ys e

before_once : (n : ℕ) (ds es : List ℕ) → length ds ≡ n → length es ≡ n → AreDigits ds → AreDigits es → before_bytes ds ≡ before_bytes es → ds ≡ es
before_once n ds es a b h g e =
    list_once ds es (sym (before_cmp n ds es a b h g) ∙ ap (λ (l : List ℕ). slice_cmp nat_cmp l (before_bytes es)) e ∙ same_list (before_bytes es))

after_once : (n : ℕ) (ds es : List ℕ) → length ds ≡ n → length es ≡ n → AreDigits ds → AreDigits es → after_bytes ds ≡ after_bytes es → ds ≡ es
after_once n ds es a b h g e =
    list_once ds es (sym (after_cmp n ds es a b h g) ∙ ap (λ (l : List ℕ). slice_cmp nat_cmp l (after_bytes es)) e ∙ same_list (after_bytes es))

-- packed bytes determine the sign
sign_told : (n : Bool) (y : List ℕ) → get_or y 0 0 < 128 → 0 < length y → has_minus_bit (signed n (top_flipped y)) ≡ n
sign_told n [] low some = absurd (omega (arith, some))
sign_told true (b ∷ y) low some = let small : 255 - (b + 128) % 256 < 128 = omega (arith, low) in below-128 (255 - (b + 128) % 256) small
sign_told false (b ∷ y) low some = let large : 128 ≤ (b + 128) % 256 = omega (arith, low) in above-128 ((b + 128) % 256) large

-- bytes pack at most one value
pub packed_once : (before after : ℕ) (v w : DecimalParts) (bytes : List ℕ) → 0 < before + after → IsPacked before after v bytes → IsPacked before after w bytes → v ≡ w
packed_once before after v w bytes some p q =
    let neg = has_minus_bit bytes in
    let x = top_flipped (signed neg bytes) in
    let one = plain_of neg bytes x before after v refl refl p in
    let two = plain_of neg bytes x before after w refl refl q in
    let both : before_bytes v.before ++ after_bytes v.after ≡ before_bytes w.before ++ after_bytes w.after = sym one ∙ two in
    let v_long : length (before_bytes v.before) ≡ side_size before = length-before v.before ∙ ap side_size p.before_size in
    let w_long : length (before_bytes w.before) ≡ side_size before = length-before w.before ∙ ap side_size q.before_size in
    let prefixes : before_bytes v.before ≡ before_bytes w.before =
    sym (take-append_seam (before_bytes v.before) (after_bytes v.after)) ∙ ap (λ k. take k (before_bytes v.before ++ after_bytes v.after)) (v_long ∙ sym w_long)
    ∙ ap (take (length (before_bytes w.before))) both ∙ take-append_seam (before_bytes w.before) (after_bytes w.after) in
    let backs : after_bytes v.after ≡ after_bytes w.after =
    sym (drop-append_seam (before_bytes v.before) (after_bytes v.after)) ∙ ap (λ k. drop k (before_bytes v.before ++ after_bytes v.after)) (v_long ∙ sym w_long)
    ∙ ap (drop (length (before_bytes w.before))) both ∙ drop-append_seam (before_bytes w.before) (after_bytes w.after) in
    let v_some : 0 < length v.before + length v.after = subst (λ k. 0 < k + length v.after) (sym p.before_size) (subst (λ k. 0 < before + k) (sym p.after_size) some) in
    let w_some : 0 < length w.before + length w.after = subst (λ k. 0 < k + length w.after) (sym q.before_size) (subst (λ k. 0 < before + k) (sym q.after_size) some) in
    let v_sign = sign_told v.negative (before_bytes v.before ++ after_bytes v.after) (sides_low v.before v.after p.before_are p.after_are) (sides_some v v_some) in
    let w_sign = sign_told w.negative (before_bytes w.before ++ after_bytes w.after) (sides_low w.before w.after q.before_are q.after_are) (sides_some w w_some) in
    let signs : v.negative ≡ w.negative = sym v_sign ∙ ap has_minus_bit (p.bytes_are ∙ sym q.bytes_are) ∙ w_sign in
    made v.negative w.negative v.before w.before v.after w.after signs (before_once before v.before w.before p.before_size q.before_size p.before_are q.before_are prefixes)
    (after_once after v.after w.after p.after_size q.after_size p.after_are q.after_are backs)
  where
    made : (a b : Bool) (c d e f : List ℕ) → a ≡ b → c ≡ d → e ≡ f → (let x : DecimalParts = record { negative = a; before = c; after = e } in x) ≡ (let y : DecimalParts = record { negative = b; before = d; after = f } in y)
    made a b c d e f g h i = ap (λ (k : Bool). let x : DecimalParts = record { negative = k; before = c; after = e } in x) g ∙ ap (λ (l : List ℕ). let x : DecimalParts = record { negative = b; before = l; after = e } in x) h
        ∙ ap (λ (l : List ℕ). let x : DecimalParts = record { negative = b; before = d; after = l } in x) i

-- if there are digits, all are kept
pub kept_all : (v : DecimalParts) → 0 < length v.before + length v.after → normalized true v ≡ v
kept_all v some = elim (eqb_tells (length v.before + length v.after) 0) [ inl t ↦ absurd (omega (arith, t.1, some)) | inr t ↦ rw t.0 refl ]

no_list : (xs : List ℕ) → length xs ≡ 0 → xs ≡ []
no_list [] e = refl
no_list (x ∷ xs) e = absurd (omega (arith, e))

-- without digits the result is zero
kept_none : (keep : Bool) (v : DecimalParts) → length v.before ≡ 0 → length v.after ≡ 0 → normalized keep v ≡ zero_value
unfolding without_zero_nines
kept_none true v a b = rw (a, b) refl
kept_none false v a b = rw (no_list v.before a, b) refl

-- bytes unpack to one decimal, even without digits
pub unpacked_once : (keep : Bool) (before after : ℕ) (d e : DecimalParts) (bytes : List ℕ) → Unpacks keep before after d bytes → Unpacks keep before after e bytes → d ≡ e
unpacked_once keep zero zero d e bytes p q =
    p.made ∙ kept_none keep p.value p.packed_is.before_size p.packed_is.after_size ∙ sym (q.made ∙ kept_none keep q.value q.packed_is.before_size q.packed_is.after_size)
unpacked_once keep (suc before) after d e bytes p q =
    let some : 0 < suc before + after = omega arith in
    p.made ∙ ap (normalized keep) (packed_once (suc before) after p.value q.value bytes some p.packed_is q.packed_is) ∙ sym q.made
unpacked_once keep zero (suc after) d e bytes p q =
    let some : 0 < 0 + suc after = omega arith in
    p.made ∙ ap (normalized keep) (packed_once zero (suc after) p.value q.value bytes some p.packed_is q.packed_is) ∙ sym q.made
