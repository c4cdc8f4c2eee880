-- The table of first digits, and the digits after them.
use Rattle.std.proofs.Common.{◌≡◌, ℕ, zero, suc, ◌+◌, ◌-◌, ◌*◌, ◌/◌, ◌%◌, ◌^◌, ◌<◌, ◌≤◌, Bool, true, false, ◌&&◌, T, eqb, List, [], ◌∷◌, ◌++◌, length, take, drop, get_or, refl, sym, ap, ap₂, ◌∙◌, subst, inl, inr, arith, eq-zero-or-pos, eqb→eq, append_assoc, length-append}
use Rattle.std.specs.Fmt.{decimal, digits}
use Rattle.std.proofs.lemmas.Fmt.{decimal_step}
use Rattle.std.proofs.lemmas.List.{drop-drop, get_or-drop, take-take, length-take-le}
use Rattle.std.proofs.Math.Seq.{take-add, take-append_seam, drop-append_seam}
use Rattle.rows_values.specs.TimeTexts.{padded_decimal}
use Rattle.rows_values.specs.PackedTexts.{digits_text}
use Rattle.feed_writers.proofs.DigitLemmas.{padded_pair, two_padded, four_padded, four_more, joined_is}
use Rattle.changes_writers.specs.declared.numbers.TheConstants.{FIRST_DIGITS}
use lib.Ieee.Fits.{and_l, and_r}

-- whether two lists are equal
abbrev are_equal : List ℕ → List ℕ → Bool
are_equal [] [] = true
are_equal [] (y ∷ ys) = false
are_equal (x ∷ xs) [] = false
are_equal (x ∷ xs) (y ∷ ys) = eqb x y && are_equal xs ys

equal : (xs ys : List ℕ) → T (are_equal xs ys) → xs ≡ ys
equal [] [] t = refl
equal [] (y ∷ ys) t = absurd t
equal (x ∷ xs) [] t = absurd t
equal (x ∷ xs) (y ∷ ys) t = ap₂ (λ (a : ℕ) (l : List ℕ). a ∷ l) (eqb→eq x y (and_l _ (are_equal xs ys) t)) (equal xs ys (and_r (eqb x y) _ t))

-- three bytes that begin with the digits of a number, and how many they are
abbrev is_first : ℕ → List ℕ → Bool
is_first n l = eqb (get_or l 3 0) (48 + length (decimal n)) && (eqb (3 - (3 - length (decimal n))) (length (decimal n)) && are_equal (take (length (decimal n)) l) (decimal n))

-- the same for k numbers from n on, each in four bytes
abbrev each : ℕ → ℕ → List ℕ → Bool
each zero n l = true
each (suc k) n l = is_first n l && each k (suc n) (drop 4 l)

each_at : (k n : ℕ) (l : List ℕ) → T (each k n l) → (m : ℕ) → n ≤ m → m < n + k → T (is_first m (drop (4 * (m - n)) l))
each_at zero n l t m lo hi = absurd (omega arith)
each_at (suc k) n l t m lo hi =
    elim (eq-zero-or-pos (m - n)) [
      | inl z ↦ let e : m ≡ n = omega arith in let f : 4 * (m - n) ≡ 0 = omega arith in rw (f, e) (and_l _ (each k (suc n) (drop 4 l)) t)
      | inr g ↦
          let f : 4 * (m - n) ≡ 4 + 4 * (m - suc n) = omega arith in
          subst (λ (t : List ℕ). T (is_first m t)) (drop-drop (4 * (m - suc n)) 4 l ∙ ap (λ j. drop j l) (sym f)) (each_at k (suc n) (drop 4 l) (and_r _ (each k (suc n) (drop 4 l)) t) m (omega arith) (omega arith))
    ]

all_first : T (each 1000 0 FIRST_DIGITS)
unfolding digits
all_first = tt

-- the entry of a number
pub record IsFirst (n : ℕ) : Type 0 where
  pub count : get_or FIRST_DIGITS (4 * n + 3) 0 ≡ 48 + length (decimal n)
  pub few : length (decimal n) ≤ 3
  pub is : take (length (decimal n)) (drop (4 * n) FIRST_DIGITS) ≡ decimal n

pub first_is : (n : ℕ) → n < 1000 → IsFirst n
first_is n h =
    let z : n - 0 ≡ n = omega arith in
    let t : T (is_first n (drop (4 * n) FIRST_DIGITS)) = subst (λ (i : ℕ). T (is_first n (drop (4 * i) FIRST_DIGITS))) z (each_at 1000 0 FIRST_DIGITS all_first n (omega arith) (omega (arith, h))) in
    let d = get_or (drop (4 * n) FIRST_DIGITS) 3 0 in
    let k = length (decimal n) in
    let same = are_equal (take k (drop (4 * n) FIRST_DIGITS)) (decimal n) in
    let few : 3 - (3 - k) ≡ k = eqb→eq (3 - (3 - k)) k (and_l (eqb (3 - (3 - k)) k) same (and_r (eqb d (48 + k)) (eqb (3 - (3 - k)) k && same) t)) in
    record {
      count = sym (get_or-drop (4 * n) FIRST_DIGITS 3 0) ∙ eqb→eq d (48 + k) (and_l (eqb d (48 + k)) (eqb (3 - (3 - k)) k && same) t);
      few = omega (arith, few);
      is = equal _ _ (and_r (eqb (3 - (3 - k)) k) same (and_r (eqb d (48 + k)) (eqb (3 - (3 - k)) k && same) t));
    }

table_len : length FIRST_DIGITS ≡ 4000
table_len = refl

-- the four bytes at an offset
four_at : (k : ℕ) (l : List ℕ) → k + 4 ≤ length l → take 4 (drop k l) ≡ get_or l k 0 ∷ get_or l (k + 1) 0 ∷ get_or l (k + 2) 0 ∷ get_or l (k + 3) 0 ∷ []
four_at zero [] room = absurd (omega arith)
four_at zero (a ∷ []) room = absurd (omega arith)
four_at zero (a ∷ b ∷ []) room = absurd (omega arith)
four_at zero (a ∷ b ∷ c ∷ []) room = absurd (omega arith)
four_at zero (a ∷ b ∷ c ∷ d ∷ l) room = refl
four_at (suc k) [] room = absurd (omega arith)
four_at (suc k) (x ∷ l) room =
    let one : suc k + 1 ≡ suc (k + 1) = omega arith in
    let two : suc k + 2 ≡ suc (k + 2) = omega arith in
    let three : suc k + 3 ≡ suc (k + 3) = omega arith in
    rw (one, two, three) (four_at k l (omega (arith, room)))

-- only the digits of the four bytes that were written count
pub first_written : (at r n end : ℕ) (old new piece : List ℕ) → n < 1000 → at ≤ length old
    → piece ≡ get_or FIRST_DIGITS (4 * n) 0 ∷ get_or FIRST_DIGITS (4 * n + 1) 0 ∷ get_or FIRST_DIGITS (4 * n + 2) 0 ∷ get_or FIRST_DIGITS (4 * n + 3) 0 ∷ []
    → r ≡ at + length piece → take r new ≡ take at old ++ piece → end ≡ at + length (decimal n) → take end new ≡ take at old ++ decimal n
first_written at r n end old new piece h room bytes all written is =
    let first = first_is n h in
    let are : piece ≡ take 4 (drop (4 * n) FIRST_DIGITS) = bytes ∙ sym (four_at (4 * n) FIRST_DIGITS (omega (arith, h, table_len))) in
    let size : length piece ≡ 4 = ap length bytes in
    let j = length (decimal n) in
    let prefix = take at old in
    let len : length prefix ≡ at = length-take-le at old room in
    ap (λ i. take i new) is
    ∙ sym (take-take (at + j) r new (omega (arith, all, size, first.few)))
    ∙ ap (take (at + j)) written
    ∙ ap (λ (i : ℕ). take (i + j) (prefix ++ piece)) (sym len)
    ∙ take-add (length prefix) j (prefix ++ piece)
    ∙ ap₂ (λ (a b : List ℕ). a ++ take j b) (take-append_seam prefix piece) (drop-append_seam prefix piece)
    ∙ ap (λ (t : List ℕ). prefix ++ t) (ap (take j) are ∙ take-take j 4 (drop (4 * n) FIRST_DIGITS) (omega (arith, first.few)) ∙ first.is)

-- the last two digits, apart from the others
two_more : (n : ℕ) → 100 ≤ n → n < 2 ^ 64 → decimal (n / 100) ++ padded_decimal 2 (n % 100) ≡ decimal n
two_more n lo hi =
    let a : n / 10 / 10 ≡ n / 100 = omega arith in
    let b : n / 10 % 10 ≡ n % 100 / 10 = omega arith in
    let c : n % 10 ≡ n % 100 % 10 = omega arith in
    sym (rw (padded_pair (n % 100) (omega arith), decimal_step n (omega (arith, lo)) hi, decimal_step (n / 10) (omega (arith, lo)) (omega (arith, hi)), append_assoc, a, b, ← c) refl)

pub count_2 : (n : ℕ) → 100 ≤ n → n < 2 ^ 64 → length (decimal n) ≡ length (decimal (n / 100)) + 2
count_2 n lo hi = sym (ap length (two_more n lo hi)) ∙ length-append (decimal (n / 100)) (padded_decimal 2 (n % 100)) ∙ ap (λ (t : List ℕ). length (decimal (n / 100)) + length t) (padded_pair (n % 100) (omega arith))

-- the digits of a number, before its last two, four and eight, and then those
pub two_written : (base mid new : List ℕ) (n : ℕ) → 100 ≤ n → n < 2 ^ 64 → mid ≡ base ++ decimal (n / 100) → new ≡ mid ++ digits_text 2 (n % 100) → new ≡ base ++ decimal n
two_written base mid new n lo hi first second =
    joined_is base (decimal (n / 100)) (padded_decimal 2 (n % 100)) (decimal n) mid new first (second ∙ ap (λ (t : List ℕ). mid ++ t) (two_padded (n % 100) (omega arith))) (two_more n lo hi)

pub four_written : (base mid new : List ℕ) (n : ℕ) → 10000 ≤ n → n < 2 ^ 64 → mid ≡ base ++ decimal (n / 10000) → new ≡ mid ++ digits_text 4 (n % 10000) → new ≡ base ++ decimal n
four_written base mid new n lo hi first second =
    joined_is base (decimal (n / 10000)) (padded_decimal 4 (n % 10000)) (decimal n) mid new first (second ∙ ap (λ (t : List ℕ). mid ++ t) (four_padded (n % 10000) (omega arith))) (four_more n lo hi)

pub eight_written : (base mid one new : List ℕ) (n : ℕ) → 100000000 ≤ n → n < 2 ^ 64 → mid ≡ base ++ decimal (n / 100000000) → one ≡ mid ++ digits_text 4 (n % 100000000 / 10000) → new ≡ one ++ digits_text 4 (n % 100000000 % 10000) → new ≡ base ++ decimal n
eight_written base mid one new n lo hi first second third =
    let a : n / 10000 / 10000 ≡ n / 100000000 = omega arith in
    let b : n / 10000 % 10000 ≡ n % 100000000 / 10000 = omega arith in
    let c : n % 10000 ≡ n % 100000000 % 10000 = omega arith in
    four_written base one new n (omega (arith, lo)) hi
    (four_written base mid one (n / 10000) (omega (arith, lo)) (omega (arith, hi)) (first ∙ ap (λ k. base ++ decimal k) (sym a)) (second ∙ ap (λ k. mid ++ digits_text 4 k) (sym b)))
    (third ∙ ap (λ k. one ++ digits_text 4 k) (sym c))
