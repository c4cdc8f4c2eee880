-- Numbers with leading zeros, digit by digit, and the printed digits of microseconds.
use Rattle.std.proofs.Common.{◌≡◌, ◌≤◌, ◌<◌, ◌^◌, ◌+◌, ◌-◌, ◌/◌, ◌%◌, ◌∷◌, [], ◌++◌, ℕ, suc, List, Bool, Option, Some, true, false, length, take, min, replicate, append_assoc, ap, sym, refl, arith, ◌∙◌}
use Rattle.std.specs.Prelude.{◌==◌, map, nat_lt, if◌then◌else◌}
use Rattle.std.specs.List.{flat_map}
use Rattle.std.specs.Fmt.{decimal}
use Rattle.std.proofs.lemmas.Bool.{ltb-true, ltb-false, lt-ltb}
use Rattle.std.proofs.lemmas.Fmt.{decimal_digit, decimal_step, decimal_nonempty}
use Rattle.std.proofs.lemmas.List.{take_min, take_all, take-map, replicate_more, length-append}
use Rattle.rows_values.specs.TimeTexts.{padded_decimal, two_digits, micros_text}

longer : (n : ℕ) → 10 ≤ n → n < 2 ^ 64 → length (decimal n) ≡ length (decimal (n / 10)) + 1
longer n m h = ap length (decimal_step n m h) ∙ length-append (decimal (n / 10)) ((48 + n % 10) ∷ [])

-- the last digit separated
pub padded_more : (k n : ℕ) → n < 2 ^ 64 → padded_decimal (suc (suc k)) n ≡ padded_decimal (suc k) (n / 10) ++ (48 + n % 10) ∷ []
unfolding padded_decimal
padded_more k n h = either (nat_lt n 10) refl
  where
    either : (b : Bool) → nat_lt n 10 ≡ b
        → replicate (suc (suc k) - length (decimal n)) 48 ++ decimal n ≡ (replicate (suc k - length (decimal (n / 10))) 48 ++ decimal (n / 10)) ++ (48 + n % 10) ∷ []
    either true few =
        let l : n < 10 = ltb-true n 10 few in
        let z : n / 10 ≡ 0 = omega (arith, l) in
        let m : n % 10 ≡ n = omega (arith, l) in
        let e : suc (suc k) - 1 ≡ k + 1 = omega arith in
        let f : suc k - 1 ≡ k = omega arith in
        rw (z, m, decimal_digit n l, decimal_digit 0 (omega arith), e, f) (ap (λ (t : List ℕ). t ++ (48 + n) ∷ []) {y = replicate k 48 ++ 48 ∷ []} (sym (replicate_more k 48)))
    either false many =
        let m : 10 ≤ n = ltb-false n 10 many in
        let e : suc (suc k) - length (decimal n) ≡ suc k - length (decimal (n / 10)) = omega (arith, longer n m h) in
        ap (λ (r : ℕ). replicate r 48 ++ decimal n) e
        ∙ ap (λ (t : List ℕ). replicate (suc k - length (decimal (n / 10))) 48 ++ t) (decimal_step n m h)
        ∙ sym (append_assoc (replicate (suc k - length (decimal (n / 10))) 48) (decimal (n / 10)) ((48 + n % 10) ∷ []))

pub padded_one : (n : ℕ) → n < 10 → padded_decimal 1 n ≡ (48 + n) ∷ []
unfolding padded_decimal
padded_one n l = rw (decimal_digit n l) refl

-- two digits, one by one
pub two_parts : (n : ℕ) → n < 100 → decimal (n / 10) ++ decimal (n % 10) ≡ two_digits n
unfolding two_digits
two_parts n h =
    let high : n / 10 < 10 = omega (arith, h) in
    rw (lt-ltb n 100 h, padded_more 0 n (omega (arith, h)), padded_one (n / 10) high, decimal_digit (n / 10) high, decimal_digit (n % 10) (omega arith)) refl

-- at least two digits
pub padded_two : (n : ℕ) → n < 2 ^ 64 → (if nat_lt n 10 then 48 ∷ [] else []) ++ decimal n ≡ padded_decimal 2 n
unfolding padded_decimal
padded_two n h = either (nat_lt n 10) refl
  where
    either : (b : Bool) → nat_lt n 10 ≡ b → (if b then 48 ∷ [] else []) ++ decimal n ≡ replicate (2 - length (decimal n)) 48 ++ decimal n
    either true few = rw (decimal_digit n (ltb-true n 10 few)) refl
    either false many =
        let m : 10 ≤ n = ltb-false n 10 many in
        let e : 2 - length (decimal n) ≡ 0 = omega (arith, longer n m h, decimal_nonempty (n / 10) (omega (arith, h))) in
        rw e refl

-- the weight of each digit of the microseconds, the highest first
abbrev pub powers : List ℕ
powers = 100000 ∷ 10000 ∷ 1000 ∷ 100 ∷ 10 ∷ 1 ∷ []

each_digit : (n : ℕ) (l : List ℕ) → flat_map (λ power. decimal (n / power % 10)) l ≡ map (λ power. 48 + n / power % 10) l
each_digit n [] = refl
each_digit n (power ∷ l) = rw (decimal_digit (n / power % 10) (omega arith)) (ap (λ (t : List ℕ). (48 + n / power % 10) ∷ t) (each_digit n l))

six_digits : (n : ℕ) → map (λ power. 48 + n / power % 10) powers ≡ padded_decimal 6 (n % 1000000)
six_digits n =
    let m : ℕ = n % 1000000 in
    let h : m < 1000000 = omega arith in
    let a : m / 10 / 10 / 10 / 10 / 10 ≡ n / 100000 % 10 = omega arith in
    let b : m / 10 / 10 / 10 / 10 % 10 ≡ n / 10000 % 10 = omega arith in
    let c : m / 10 / 10 / 10 % 10 ≡ n / 1000 % 10 = omega arith in
    let d : m / 10 / 10 % 10 ≡ n / 100 % 10 = omega arith in
    let e : m / 10 % 10 ≡ n / 10 % 10 = omega arith in
    let f : m % 10 ≡ n / 1 % 10 = omega arith in
    rw (padded_more 4 m (omega (arith, h)), padded_more 3 (m / 10) (omega (arith, h)), padded_more 2 (m / 10 / 10) (omega (arith, h)), padded_more 1 (m / 10 / 10 / 10) (omega (arith, h)), padded_more 0 (m / 10 / 10 / 10 / 10) (omega (arith, h)), padded_one (m / 10 / 10 / 10 / 10 / 10) (omega (arith, h)), a, b, c, d, e, f) refl

-- a point and all digits that were written are the fraction's text
pub fraction_whole : (o : Option ℕ) (p n k : ℕ) (shown : List ℕ) → o ≡ Some p → (p == 0) ≡ false → shown ≡ take (min p 6) powers → length shown ≤ k
    → 46 ∷ flat_map (λ power. decimal (n / power % 10)) (take k shown) ≡ micros_text o n
unfolding micros_text
fraction_whole o p n k shown is some are all =
    let whole = take_all k shown all ∙ are ∙ take_min p powers in
    let texts = each_digit n (take p powers) ∙ sym (take-map (λ power. 48 + n / power % 10) p powers) ∙ ap (take p) (six_digits n) in
    rw (is, some) (ap (λ (l : List ℕ). 46 ∷ l) (ap (flat_map (λ power. decimal (n / power % 10))) whole ∙ texts))
