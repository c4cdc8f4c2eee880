-- Digits, their groups, and the bytes of the groups.
use Rattle.std.proofs.Common.{◌≡◌, ◌≤◌, ◌<◌, ◌+◌, ◌*◌, ◌-◌, ◌^◌, ◌++◌, ℕ, zero, suc, List, [], ◌∷◌, length, take, drop, map, get_or, eqb, ltb, true, false, inl, inr, arith, refl, sym, ap, ◌∙◌}
use Rattle.std.proofs.Math.Nat.{pow-le-pow_right}
use Rattle.std.proofs.Math.Seq.{take-length}
use borrow.Author.Tests.{ltb-true}
use Rattle.std.proofs.lemmas.List.{length-take-le, length-map, length-drop, drop-append-le, take-append-le}
use Rattle.std.proofs.lemmas.Int.Digits.{number_lt}
use Rattle.std.proofs.lemmas.List.Sums.{prefix_len_is}
use Rattle.std.proofs.lemmas.Bool.Decides.{eqb_tells}
use Rattle.std.specs.List.{prefix_len, position_or_len, list_all}
use Rattle.std.proofs.lemmas.Bool.{and_parts}
use Rattle.std.proofs.lemmas.Bool.Decides.{nat_tests}
use Rattle.std.specs.Prelude.{not, ◌&&◌}
use Rattle.std.specs.Char.{is_ascii_digit}
use Rattle.std.specs.Int.{bytes_high_first}
use Rattle.std.specs.Int.Digits.{number_from_digits, AllBelowBase}
use Rattle.rows_values.specs.PrintedDecimals.{digits_of, has_only_digits}
use Rattle.rows_values.specs.Digits.{AreDigits, group_size, group_bytes, nines_bytes}

pub below_base : (ds : List ℕ) → AreDigits ds → AllBelowBase 10 ds
below_base [] h = tt
below_base (d ∷ ds) h = (h 0, below_base ds (λ k. h (suc k)))

pub take_digits : (n : ℕ) (ds : List ℕ) → AreDigits ds → AreDigits (take n ds)
take_digits zero ds h k = omega arith
take_digits (suc n) [] h k = omega arith
take_digits (suc n) (d ∷ ds) h zero = h 0
take_digits (suc n) (d ∷ ds) h (suc k) = take_digits n ds (λ j. h (suc j)) k

pub drop_digits : (n : ℕ) (ds : List ℕ) → AreDigits ds → AreDigits (drop n ds)
drop_digits zero ds h = h
drop_digits (suc n) [] h = h
drop_digits (suc n) (d ∷ ds) h = drop_digits n ds (λ k. h (suc k))

pub append_digits : (xs ys : List ℕ) → AreDigits xs → AreDigits ys → AreDigits (xs ++ ys)
append_digits [] ys h g k = g k
append_digits (x ∷ xs) ys h g zero = h 0
append_digits (x ∷ xs) ys h g (suc k) = append_digits xs ys (λ j. h (suc j)) g k

pub number_bound : (ds : List ℕ) → AreDigits ds → number_from_digits 10 ds < 10 ^ length ds
number_bound ds h = number_lt 10 ds (below_base ds h)

-- the number of k digits leaves the top bit of its bytes free
pub fits_group : (k n : ℕ) → k ≤ 9 → n < 10 ^ k → (n < 256 ^ group_size k) × (2 * n < 256 ^ group_size k)
fits_group zero n room h = (omega (arith, h), omega (arith, h))
fits_group (suc zero) n room h = (omega (arith, h), omega (arith, h))
fits_group (suc (suc zero)) n room h = (omega (arith, h), omega (arith, h))
fits_group (suc (suc (suc zero))) n room h = (omega (arith, h), omega (arith, h))
fits_group (suc (suc (suc (suc zero)))) n room h = (omega (arith, h), omega (arith, h))
fits_group (suc (suc (suc (suc (suc zero))))) n room h = (omega (arith, h), omega (arith, h))
fits_group (suc (suc (suc (suc (suc (suc zero)))))) n room h = (omega (arith, h), omega (arith, h))
fits_group (suc (suc (suc (suc (suc (suc (suc zero))))))) n room h = (omega (arith, h), omega (arith, h))
fits_group (suc (suc (suc (suc (suc (suc (suc (suc zero)))))))) n room h = (omega (arith, h), omega (arith, h))
fits_group (suc (suc (suc (suc (suc (suc (suc (suc (suc zero))))))))) n room h = (omega (arith, h), omega (arith, h))
fits_group (suc (suc (suc (suc (suc (suc (suc (suc (suc (suc k)))))))))) n room h = absurd (omega (arith, room))

-- the last bytes of four
pub last_bytes : (s n : ℕ) → s ≤ 4 → drop (4 - s) (bytes_high_first 4 n) ≡ bytes_high_first s n
last_bytes zero n room = refl
last_bytes (suc zero) n room = refl
last_bytes (suc (suc zero)) n room = refl
last_bytes (suc (suc (suc zero))) n room = refl
last_bytes (suc (suc (suc (suc zero)))) n room = refl
last_bytes (suc (suc (suc (suc (suc s))))) n room = absurd (omega (arith, room))

-- one more group
pub nines_more : (n : ℕ) (ds : List ℕ) → nines_bytes (n + 1) ds ≡ nines_bytes n ds ++ group_bytes (take 9 (drop (9 * n) ds))
unfolding nines_bytes
nines_more n ds = let e : n + 1 ≡ suc n = omega arith in rw e refl

-- the groups don't depend on the digits after them
pub nines_append : (n : ℕ) (ds es : List ℕ) → 9 * n ≤ length ds → nines_bytes n (ds ++ es) ≡ nines_bytes n ds
unfolding nines_bytes
nines_append zero ds es room = refl
nines_append (suc n) ds es room =
    let before : 9 * n ≤ length ds = omega (arith, room) in
    let left : 9 ≤ length (drop (9 * n) ds) = omega (arith, room, length-drop (9 * n) ds) in
    let same : take 9 (drop (9 * n) (ds ++ es)) ≡ take 9 (drop (9 * n) ds) = ap (take 9) (drop-append-le (9 * n) ds es before) ∙ take-append-le 9 (drop (9 * n) ds) es left in
    rw (nines_append n ds es before, same) refl

-- how many of the first elements are this one
pub leading_is : (x : ℕ) (xs : List ℕ) (n : ℕ) → n ≤ length xs → ((k : ℕ) → k < n → get_or xs k 0 ≡ x) → (n < length xs → get_or xs n 0 ≡ x → ⊥) → n ≡ prefix_len (λ y. eqb y x) xs
leading_is x xs n room before at = sym (prefix_len_is (λ y. eqb y x) xs n 0 room (λ k h. same k (before k h)) (λ h. other (at h)))
  where
    same : (k : ℕ) → get_or xs k 0 ≡ x → eqb (get_or xs k 0) x ≡ true
    same k e = elim (eqb_tells (get_or xs k 0) x) [ inl t ↦ t.0 | inr t ↦ absurd (t.1 e) ]

    other : (get_or xs n 0 ≡ x → ⊥) → eqb (get_or xs n 0) x ≡ false
    other differs = elim (eqb_tells (get_or xs n 0) x) [ inl t ↦ absurd (differs t.1) | inr t ↦ t.0 ]

-- the text before the first point
pub point_is : (xs : List ℕ) (n : ℕ) → n ≤ length xs → ((k : ℕ) → k < n → get_or xs k 0 ≡ 46 → ⊥) → (n < length xs → get_or xs n 0 ≡ 46) → position_or_len (λ c. eqb c 46) xs ≡ n
point_is xs n room before at = prefix_len_is (λ c. not (eqb c 46)) xs n 0 room (λ k h. other k (before k h)) (λ h. point (at h))
  where
    other : (k : ℕ) → (get_or xs k 0 ≡ 46 → ⊥) → not (eqb (get_or xs k 0) 46) ≡ true
    other k differs = elim (eqb_tells (get_or xs k 0) 46) [ inl t ↦ absurd (differs t.1) | inr t ↦ rw t.0 refl ]

    point : get_or xs n 0 ≡ 46 → not (eqb (get_or xs n 0) 46) ≡ false
    point e = elim (eqb_tells (get_or xs n 0) 46) [ inl t ↦ rw t.0 refl | inr t ↦ absurd (t.1 e) ]

pub drop_past : (xs : List ℕ) (n : ℕ) → length xs ≤ n → drop n xs ≡ []
drop_past [] zero room = refl
drop_past [] (suc n) room = refl
drop_past (x ∷ xs) zero room = absurd (omega (arith, room))
drop_past (x ∷ xs) (suc n) room = drop_past xs n (omega (arith, room))

-- the values of digit characters are digits
digit_below : (c : ℕ) → is_ascii_digit c ≡ true → c - 48 < 10
digit_below c h = grind (arith, nat_tests)

pub sequence_digits : (t : List ℕ) → list_all is_ascii_digit t ≡ true → AreDigits (map (λ c. c - 48) t)
sequence_digits [] h k = omega arith
sequence_digits (c ∷ t) h zero = digit_below c (and_parts (is_ascii_digit c) (list_all is_ascii_digit t) h).0
sequence_digits (c ∷ t) h (suc k) = sequence_digits t (and_parts (is_ascii_digit c) (list_all is_ascii_digit t) h).1 k

-- the digits of a group that were read make a number of at most eight digits
pub number_room : (ds : List ℕ) (i : ℕ) → i < length ds → length ds ≤ 9 → AreDigits ds → number_from_digits 10 (take i ds) < 100000000
number_room ds i below few are =
    let bound = number_bound (take i ds) (take_digits i ds are) in
    let size = length-take-le i ds (omega (arith, below)) in
    let most : length (take i ds) ≤ 8 = omega (arith, size, below, few) in
    let ten : 0 < 10 = omega arith in
    omega (arith, bound, pow-le-pow_right {n = 10} ten most)

-- the characters of a decimal give digits, and at least one
pub sequence_facts : (a b : List ℕ) → has_only_digits a b ≡ true → AreDigits (digits_of a) × AreDigits (digits_of b) × (0 < length (digits_of a) + length (digits_of b))
unfolding has_only_digits
sequence_facts a b h =
    let parts = and_parts (ltb 0 (length a + length b)) (list_all is_ascii_digit a && list_all is_ascii_digit b) h in
    let both = and_parts (list_all is_ascii_digit a) (list_all is_ascii_digit b) parts.1 in
    let some : 0 < length a + length b = ltb-true 0 (length a + length b) parts.0 in
    (sequence_digits a both.0, sequence_digits b both.1, omega (arith, some, length-map a (λ c. c - 48), length-map b (λ c. c - 48)))

pub to_end : (xs : List ℕ) (n : ℕ) → take (length xs - n) (drop n xs) ≡ drop n xs
to_end xs n = ap (λ k. take k (drop n xs)) (sym (length-drop n xs)) ∙ take-length (drop n xs)
