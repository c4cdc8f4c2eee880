-- The numbers of digits on both sides of the point.
use Rattle.std.proofs.Common.{◌≡◌, ◌≤◌, ◌<◌, ◌+◌, ◌*◌, ◌^◌, ◌/◌, ◌%◌, ◌++◌, Bool, ℕ, zero, suc, List, [], ◌∷◌, length, take, drop, Option, Some, None, append_assoc, arith, refl, sym, ap, ap₂, subst, ◌∙◌}
use Rattle.std.proofs.lemmas.List.{append-nil}
use Rattle.std.proofs.Math.Nat.{pow-suc, mul_left_comm}
use Rattle.std.proofs.Math.Seq.{take-length}
use Rattle.std.proofs.lemmas.Nat.{pow-add}
use Rattle.rows_values.specs.Digits.{digits_in}
use Rattle.rows_values.specs.Decimals.{DecimalParts}
use Rattle.rows_values.specs.Unpacked.{concat_digits, group_digits, nines_digits, after_digits, valued}
use Rattle.rows_values.specs.PackedNumbers.{IsNumber}
use Rattle.rows_values.proofs.FlipBackLemmas.{num}
use Rattle.rows_values.proofs.WriteLemmas.{group_fits, group_past, nines_begin, nines_next, nines_none_of, joined_to, none_follows}

-- the digits of a number, and those of another after them
digits_apart : (j k h l : ℕ) → l < 10 ^ j → digits_in (k + j) (h * 10 ^ j + l) ≡ digits_in k h ++ digits_in j l
unfolding digits_in
digits_apart zero k h l small =
    let none : l ≡ 0 = omega (arith, small) in
    let a : k + 0 ≡ k = omega arith in
    let b : h * 1 + l ≡ h = omega (arith, none) in
    ap₂ (λ (m n : ℕ). digits_in m n) a b ∙ sym (append-nil (digits_in k h))
digits_apart (suc j) k h l small =
    let power : 10 ^ suc j ≡ 10 * 10 ^ j = omega (arith, pow-suc 10 j) in
    let product : h * 10 ^ suc j ≡ 10 * (h * 10 ^ j) = ap (λ (p : ℕ). h * p) power ∙ mul_left_comm h 10 (10 ^ j) in
    let few : l / 10 < 10 ^ j = omega (arith, small, power) in
    let positions : k + suc j ≡ suc (k + j) = omega arith in
    let prefix : (h * 10 ^ suc j + l) / 10 ≡ h * 10 ^ j + l / 10 = omega (arith, product) in
    let last : (h * 10 ^ suc j + l) % 10 ≡ l % 10 = omega (arith, product) in
    ap (λ (m : ℕ). digits_in m (h * 10 ^ suc j + l)) positions
    ∙ ap₂ (λ (m d : ℕ). digits_in (k + j) m ++ (d ∷ [])) prefix last
    ∙ ap (λ (ds : List ℕ). ds ++ (l % 10 ∷ [])) (digits_apart j k h (l / 10) few)
    ∙ append_assoc (digits_in k h) (digits_in j (l / 10)) (l % 10 ∷ [])

-- a single group
pub one_group : (count left n : ℕ) (xs ys : List ℕ) → count < 9 → left ≡ count → n ≡ num xs → n < 10 ^ left → (m : ℕ) → m ≡ n → IsNumber (concat_digits (group_digits left xs) (nines_digits (count / 9) ys)) count m
one_group count left n xs ys few is e small m same =
    let none : count / 9 ≡ 0 = omega (arith, few) in
    record {
      are = ap (λ (k : ℕ). concat_digits (group_digits left xs) (nines_digits k ys)) none ∙ joined_to _ _ (digits_in left n) [] (group_fits left n xs e small) (nines_begin ys) ∙ ap (λ (l : List ℕ). Some l) (append-nil (digits_in left n))
          ∙ ap₂ (λ (k j : ℕ). Some (digits_in k j)) is (sym same);
      fits = subst (λ (k : ℕ). m < 10 ^ k) is (omega (arith, same, small));
    }

-- a group before nine digits
pub two_groups : (count high low m : ℕ) (xs ys : List ℕ) → 9 ≤ count → count ≤ 16 → high ≡ num xs → high < 10 ^ (count % 9) → low ≡ num ys → length ys ≡ 4 → low < 1000000000 → m ≡ high * 1000000000 + low
    → IsNumber (concat_digits (group_digits (count % 9) xs) (nines_digits (count / 9) ys)) count m
two_groups count high low m xs ys many most h fits_high l four fits_low sum =
    let left = count % 9 in
    let one : count / 9 ≡ 0 + 1 = omega (arith, many, most) in
    let all : left + 9 ≡ count = omega (arith, many, most) in
    let whole : take 4 (drop (4 * 0) ys) ≡ ys = ap (λ (k : ℕ). take k ys) (sym four) ∙ take-length ys in
    let nine : nines_digits (count / 9) ys ≡ Some (digits_in 9 low) =
    ap (λ (k : ℕ). nines_digits k ys) one ∙ nines_next 0 ys ∙ joined_to _ _ [] (digits_in 9 low) (nines_begin ys) (ap (group_digits 9) whole ∙ group_fits 9 low ys l fits_low) in
    let power : 10 ^ count ≡ 10 ^ left * 1000000000 = ap (λ (k : ℕ). 10 ^ k) (sym all) ∙ pow-add 10 left 9 in
    record {
      are = joined_to _ _ (digits_in left high) (digits_in 9 low) (group_fits left high xs h fits_high) nine ∙ ap (λ (ds : List ℕ). Some ds) (sym (digits_apart 9 left high low fits_low))
          ∙ ap₂ (λ (k n : ℕ). Some (digits_in k n)) all (sym sum);
      fits = omega (arith, power, sum, fits_high, fits_low);
    }

-- a group of nine digits that is too large
pub nine_missing : (count low : ℕ) (o : Option (List ℕ)) (ys : List ℕ) → 9 ≤ count → low ≡ num ys → length ys ≡ 4 → 1000000000 ≤ low → concat_digits o (nines_digits (count / 9) ys) ≡ None
nine_missing count low o ys many l four past =
    let whole : take 4 (drop (4 * 0) ys) ≡ ys = ap (λ (k : ℕ). take k ys) (sym four) ∙ take-length ys in
    none_follows _ _ (nines_none_of (count / 9) 0 ys (omega (arith, many)) (ap (group_digits 9) whole ∙ group_past 9 low ys l past))

-- both sides of the point
pub numbers_are : (o : Option DecimalParts) (negative : Bool) (a b : Option (List ℕ)) (before after m n : ℕ) → o ≡ valued negative a b → a ≡ Some (digits_in before m) → b ≡ Some (digits_in after n)
    → o ≡ Some (let v : DecimalParts = record { negative = negative; before = digits_in before m; after = digits_in after n } in v)
numbers_are o negative a b before after m n is x y = is ∙ ap₂ (valued negative) x y

pub after_missing : (o : Option DecimalParts) (negative : Bool) (a b : Option (List ℕ)) → o ≡ valued negative a b → b ≡ None → o ≡ None
after_missing o negative None b is e = is
after_missing o negative (Some ds) b is e = is ∙ ap (valued negative (Some ds)) e

pub before_missing : (o : Option DecimalParts) (negative : Bool) (a b : Option (List ℕ)) → o ≡ valued negative a b → a ≡ None → o ≡ None
before_missing o negative a b is e = is ∙ ap (λ (p : Option (List ℕ)). valued negative p b) e

none_prefix : (o : Option (List ℕ)) → concat_digits (Some []) o ≡ o
none_prefix None = refl
none_prefix (Some ds) = refl

-- fewer than nine digits after the point are one group
pub few_after : (scale : ℕ) (ys : List ℕ) → scale ≤ 8 → after_digits scale ys ≡ group_digits scale ys
few_after scale ys few = alone scale (scale / 9) (scale % 9) ys (omega (arith, few)) (omega (arith, few))
  where
    alone : (s w l : ℕ) (zs : List ℕ) → w ≡ 0 → l ≡ s → concat_digits (nines_digits w (take (4 * w) zs)) (group_digits l (drop (4 * w) zs)) ≡ group_digits s zs
    alone s w l zs e f =
        ap (λ (k : ℕ). concat_digits (nines_digits k (take (4 * k) zs)) (group_digits l (drop (4 * k) zs))) e ∙ ap (λ (o : Option (List ℕ)). concat_digits o (group_digits l zs)) (nines_begin (take 0 zs))
        ∙ none_prefix (group_digits l zs) ∙ ap (λ (k : ℕ). group_digits k zs) f
