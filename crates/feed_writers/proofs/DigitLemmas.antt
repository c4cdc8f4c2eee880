-- Numbers as text, by pairs of digits, and the number of their digits.
use Rattle.std.proofs.Common.{◌≡◌, ℕ, zero, suc, ◌+◌, ◌-◌, ◌*◌, ◌/◌, ◌%◌, ◌^◌, ◌<◌, ◌≤◌, Bool, true, false, ◌&&◌, T, eqb, List, [], ◌∷◌, ◌++◌, length, take, drop, get_or, min, replicate, refl, sym, ap, ap₂, ◌∙◌, inl, inr, arith, eq-zero-or-pos, eqb→eq, append_assoc, length-append}
use Rattle.std.specs.Prelude.{◌==◌, nat_lt, take_while}
use Rattle.std.specs.List.{prefix_len}
use Rattle.std.proofs.lemmas.Bool.{ne_eqb, ltb-true, ltb-false}
use Rattle.std.proofs.lemmas.Fmt.{decimal_digit, decimal_step, length-decimal-le}
use Rattle.std.proofs.lemmas.Bool.Decides.{leb_tells}
use Rattle.std.proofs.lemmas.List.{replicate_more, take-take, length-take-le, take-append-le}
use Rattle.std.proofs.Math.Seq.{take-add, take-append_seam, drop-append_seam}
use Rattle.std.proofs.Math.Nat.{pow-suc, mul_comm, div-div-eq-div-mul, pow-le-pow_right}
use Rattle.std.proofs.lemmas.Nat.{pow-add, le_bytes_8}
use Rattle.std.specs.Int.{w16, w64, byte_at, bytes_low_first, to_le_bytes, from_le_bytes}
use Rattle.std.specs.Fmt.{decimal, digits}
use Rattle.rows_values.specs.TimeTexts.{padded_decimal}
use Rattle.rows_values.specs.PackedTexts.{digits_text}
use Rattle.rows_values.specs.declared.digit_text.TheConstants.{PAIRS}
use Rattle.rows_values.proofs.DigitTextLemmas.{pair, PAIRS_at, two_text, text_two}

-- ---- the number of digits

pub count_one : (n : ℕ) → n < 10 → 1 ≡ length (decimal n)
count_one n h = sym (ap length (decimal_digit n h))

longer : (n : ℕ) → 10 ≤ n → n < 2 ^ 64 → length (decimal n) ≡ length (decimal (n / 10)) + 1
longer n m h = ap length (decimal_step n m h) ∙ length-append (decimal (n / 10)) ((48 + n % 10) ∷ [])

pub count_two : (n : ℕ) → 10 ≤ n → n < 100 → 2 ≡ length (decimal n)
count_two n lo hi = omega (arith, longer n lo (omega arith), count_one (n / 10) (omega arith))

pub count_three : (n : ℕ) → 100 ≤ n → n < 1000 → 3 ≡ length (decimal n)
count_three n lo hi = omega (arith, longer n (omega arith) (omega arith), count_two (n / 10) (omega arith) (omega arith))

pub count_four : (n : ℕ) → 1000 ≤ n → n < 10000 → 4 ≡ length (decimal n)
count_four n lo hi = omega (arith, longer n (omega arith) (omega arith), count_three (n / 10) (omega arith) (omega arith))

pub count_more : (n : ℕ) → 10000 ≤ n → n < 2 ^ 64 → length (decimal n) ≡ length (decimal (n / 10000)) + 4
count_more n lo hi =
    let a : n / 10 / 10 / 10 / 10 ≡ n / 10000 = omega arith in
    omega (arith, longer n (omega arith) hi, longer (n / 10) (omega arith) (omega arith), longer (n / 10 / 10) (omega arith) (omega arith), longer (n / 10 / 10 / 10) (omega arith) (omega arith), ap (λ k. length (decimal k)) a)

pub count_8 : (n : ℕ) → 100000000 ≤ n → n < 2 ^ 64 → length (decimal n) ≡ length (decimal (n / 100000000)) + 8
count_8 n lo hi =
    let a : n / 10000 / 10000 ≡ n / 100000000 = omega arith in
    omega (arith, count_more n (omega arith) hi, count_more (n / 10000) (omega arith) (omega arith), ap (λ k. length (decimal k)) a)

pub count_12 : (n : ℕ) → 1000000000000 ≤ n → n < 2 ^ 64 → length (decimal n) ≡ length (decimal (n / 1000000000000)) + 12
count_12 n lo hi =
    let a : n / 10000 / 100000000 ≡ n / 1000000000000 = omega arith in
    omega (arith, count_more n (omega arith) hi, count_8 (n / 10000) (omega arith) (omega arith), ap (λ k. length (decimal k)) a)

pub count_16 : (n : ℕ) → 10000000000000000 ≤ n → n < 2 ^ 64 → length (decimal n) ≡ length (decimal (n / 10000000000000000)) + 16
count_16 n lo hi =
    let a : n / 100000000 / 100000000 ≡ n / 10000000000000000 = omega arith in
    omega (arith, count_8 n (omega arith) hi, count_8 (n / 100000000) (omega arith) (omega arith), ap (λ k. length (decimal k)) a)

pub count_small : (n : ℕ) → n < 10000 → length (decimal n) ≤ 4
count_small n h = length-decimal-le 4 n (omega arith) (omega (arith, h)) (omega (arith, h))

-- ---- leading zeros

-- the last digit, apart from the others
pub padded_more : (k n : ℕ) → n < 2 ^ 64 → padded_decimal (suc (suc k)) n ≡ padded_decimal (suc k) (n / 10) ++ (48 + n % 10) ∷ []
unfolding padded_decimal
padded_more k n h = either (nat_lt n 10) refl
  where
    either : (b : Bool) → nat_lt n 10 ≡ b
        → replicate (suc (suc k) - length (decimal n)) 48 ++ decimal n ≡ (replicate (suc k - length (decimal (n / 10))) 48 ++ decimal (n / 10)) ++ (48 + n % 10) ∷ []
    either true few =
        let l : n < 10 = ltb-true n 10 few in
        let z : n / 10 ≡ 0 = omega (arith, l) in
        let m : n % 10 ≡ n = omega (arith, l) in
        let e : suc (suc k) - 1 ≡ k + 1 = omega arith in
        let f : suc k - 1 ≡ k = omega arith in
        rw (z, m, decimal_digit n l, decimal_digit 0 (omega arith), e, f) (ap (λ (t : List ℕ). t ++ (48 + n) ∷ []) {y = replicate k 48 ++ 48 ∷ []} (sym (replicate_more k 48)))
    either false many =
        let m : 10 ≤ n = ltb-false n 10 many in
        let e : suc (suc k) - length (decimal n) ≡ suc k - length (decimal (n / 10)) = omega (arith, longer n m h) in
        ap (λ (r : ℕ). replicate r 48 ++ decimal n) e
        ∙ ap (λ (t : List ℕ). replicate (suc k - length (decimal (n / 10))) 48 ++ t) (decimal_step n m h)
        ∙ sym (append_assoc (replicate (suc k - length (decimal (n / 10))) 48) (decimal (n / 10)) ((48 + n % 10) ∷ []))

pub padded_one : (n : ℕ) → n < 10 → padded_decimal 1 n ≡ (48 + n) ∷ []
unfolding padded_decimal
padded_one n l = rw (decimal_digit n l) refl

pub padded_pair : (n : ℕ) → n < 100 → padded_decimal 2 n ≡ pair n
padded_pair n h = rw (padded_more 0 n (omega (arith, h)), padded_one (n / 10) (omega (arith, h))) refl

-- the last two digits, apart from the others
pub padded_two_more : (k n : ℕ) → n < 2 ^ 64 → padded_decimal (suc (suc (suc k))) n ≡ padded_decimal (suc k) (n / 100) ++ padded_decimal 2 (n % 100)
padded_two_more k n h =
    let a : n / 10 / 10 ≡ n / 100 = omega arith in
    let b : n / 10 % 10 ≡ n % 100 / 10 = omega arith in
    let c : n % 10 ≡ n % 100 % 10 = omega arith in
    rw (padded_pair (n % 100) (omega arith), padded_more (suc k) n h, padded_more k (n / 10) (omega (arith, h)), append_assoc, a, b, ← c) refl

-- two digits, and four
pub two_padded : (n : ℕ) → n < 100 → digits_text 2 n ≡ padded_decimal 2 n
two_padded n h = two_text n h ∙ sym (padded_pair n h)

pub four_padded : (n : ℕ) → n < 10000 → digits_text 4 n ≡ padded_decimal 4 n
four_padded n h =
    sym (text_two 4 n (omega arith)) ∙ ap₂ (λ (a b : List ℕ). a ++ b) (two_padded (n / 100) (omega (arith, h))) (two_padded (n % 100) (omega arith)) ∙ sym (padded_two_more 1 n (omega (arith, h)))

-- two texts, in sequence
pub joined_is : (base a b c mid new : List ℕ) → mid ≡ base ++ a → new ≡ mid ++ b → a ++ b ≡ c → new ≡ base ++ c
joined_is base a b c mid new first second e = second ∙ ap (λ (t : List ℕ). t ++ b) first ∙ append_assoc base a b ∙ ap (λ (t : List ℕ). base ++ t) e

pub padded_of : (width n : ℕ) → padded_decimal width n ≡ replicate (width - length (decimal n)) 48 ++ decimal n
unfolding padded_decimal
padded_of width n = refl

-- no zeros
pub padded_long : (base new : List ℕ) (width n count : ℕ) → count ≡ length (decimal n) → width ≤ count → new ≡ base ++ decimal n → new ≡ base ++ padded_decimal width n
padded_long base new width n count e le h =
    let none : width - length (decimal n) ≡ 0 = omega (arith, e, le) in
    h ∙ ap (λ (t : List ℕ). base ++ t) (sym (padded_of width n ∙ rw none refl))

-- one more zero
pub zeros_more : (base one two : List ℕ) (c d : ℕ) → c ≤ d → one ≡ base ++ replicate (d - c) 48 → two ≡ one ++ 48 ∷ [] → two ≡ base ++ replicate (d + 1 - c) 48
zeros_more base one two c d h e f =
    let m : d + 1 - c ≡ d - c + 1 = omega (arith, h) in
    f ∙ rw (e, m) (append_assoc base (replicate (d - c) 48) (48 ∷ []) ∙ ap (λ (t : List ℕ). base ++ t) {y = replicate (d - c + 1) 48} (replicate_more (d - c) 48))

-- all zeros
pub zeros_done : (base one new : List ℕ) (width n c d : ℕ) → c ≡ length (decimal n) → d ≡ width → one ≡ base ++ replicate (d - c) 48 → new ≡ one ++ decimal n → new ≡ base ++ padded_decimal width n
zeros_done base one new width n c d e f h is =
    let m : d - c ≡ width - length (decimal n) = omega (arith, e, f) in
    joined_is base (replicate (width - length (decimal n)) 48) (decimal n) (padded_decimal width n) one new (h ∙ ap (λ (k : ℕ). base ++ replicate k 48) m) is (sym (padded_of width n))

-- one digit
pub one_digit : (base new : List ℕ) (n b : ℕ) → n < 10 → b ≡ 48 + n → new ≡ base ++ b ∷ [] → new ≡ base ++ decimal n
one_digit base new n b h e is = is ∙ ap (λ (t : List ℕ). base ++ t) {y = decimal n} (rw e (sym (decimal_digit n h)))

-- ---- the last digits of a number

-- a number of k digits, written with k digits
whole_padded : (k n : ℕ) → k ≡ length (decimal n) → padded_decimal k n ≡ decimal n
whole_padded k n e = let none : k - length (decimal n) ≡ 0 = omega (arith, e) in padded_of k n ∙ rw none refl

pub decimal_two : (n : ℕ) → 10 ≤ n → n < 100 → padded_decimal 2 n ≡ decimal n
decimal_two n lo hi = whole_padded 2 n (count_two n lo hi)

pub decimal_three : (n : ℕ) → 100 ≤ n → n < 1000 → (48 + n / 100) ∷ padded_decimal 2 (n % 100) ≡ decimal n
decimal_three n lo hi =
    sym (padded_two_more 0 n (omega (arith, hi)) ∙ ap (λ (t : List ℕ). t ++ padded_decimal 2 (n % 100)) {y = (48 + n / 100) ∷ []} (padded_one (n / 100) (omega (arith, hi)))) ∙ whole_padded 3 n (count_three n lo hi)

pub decimal_four : (n : ℕ) → 1000 ≤ n → n < 10000 → padded_decimal 4 n ≡ decimal n
decimal_four n lo hi = whole_padded 4 n (count_four n lo hi)

two_more : (n : ℕ) → 100 ≤ n → n < 2 ^ 64 → decimal n ≡ decimal (n / 100) ++ padded_decimal 2 (n % 100)
two_more n lo hi =
    let a : n / 10 / 10 ≡ n / 100 = omega arith in
    let b : n / 10 % 10 ≡ n % 100 / 10 = omega arith in
    let c : n % 10 ≡ n % 100 % 10 = omega arith in
    rw (padded_pair (n % 100) (omega arith), decimal_step n (omega (arith, lo)) hi, decimal_step (n / 10) (omega (arith, lo)) (omega (arith, hi)), append_assoc, a, b, ← c) refl

pub four_more : (n : ℕ) → 10000 ≤ n → n < 2 ^ 64 → decimal (n / 10000) ++ padded_decimal 4 (n % 10000) ≡ decimal n
four_more n lo hi =
    let a : n / 100 / 100 ≡ n / 10000 = omega arith in
    let b : n / 100 % 100 ≡ n % 10000 / 100 = omega arith in
    let c : n % 100 ≡ n % 10000 % 100 = omega arith in
    sym (rw (padded_two_more 1 (n % 10000) (omega arith), two_more n (omega (arith, lo)) hi, two_more (n / 100) (omega (arith, lo)) (omega (arith, hi)), append_assoc, a, b, ← c) refl)

pub eight_more : (n : ℕ) → 100000000 ≤ n → n < 2 ^ 64 → decimal (n / 100000000) ++ (padded_decimal 4 (n % 100000000 / 10000) ++ padded_decimal 4 (n % 100000000 % 10000)) ≡ decimal n
eight_more n lo hi =
    let a : n / 10000 / 10000 ≡ n / 100000000 = omega arith in
    let b : n / 10000 % 10000 ≡ n % 100000000 / 10000 = omega arith in
    let c : n % 10000 ≡ n % 100000000 % 10000 = omega arith in
    rw (← a, ← b, ← c, ← append_assoc (decimal (n / 10000 / 10000)) (padded_decimal 4 (n / 10000 % 10000)) (padded_decimal 4 (n % 10000)), four_more (n / 10000) (omega (arith, lo)) (omega (arith, hi))) (four_more n (omega (arith, lo)) hi)

-- a byte, and a text after it
pub pushed_then : (base b c mid new : List ℕ) (a : ℕ) → mid ≡ base ++ a ∷ [] → new ≡ mid ++ b → a ∷ b ≡ c → new ≡ base ++ c
pushed_then base b c mid new a first second e = joined_is base (a ∷ []) b c mid new first second e

-- ---- eight digits at once

eight_padded : (n : ℕ) → n < 2 ^ 64 → padded_decimal 4 (n / 10000) ++ padded_decimal 4 (n % 10000) ≡ padded_decimal 8 n
eight_padded n h =
    let a : n / 100 / 100 ≡ n / 10000 = omega arith in
    let b : n / 100 % 100 ≡ n % 10000 / 100 = omega arith in
    let c : n % 100 ≡ n % 10000 % 100 = omega arith in
    sym (rw (padded_two_more 5 n h, padded_two_more 3 (n / 100) (omega (arith, h)), padded_two_more 1 (n % 10000) (omega arith), append_assoc, a, b, ← c) refl)

-- the first digit isn't 0
record Starts (l : List ℕ) : Type 0 where
  x : ℕ
  r : List ℕ
  is : l ≡ x ∷ r
  digit : 48 < x

digit_after : (all prefix r : List ℕ) (x d : ℕ) → all ≡ prefix ++ d ∷ [] → prefix ≡ x ∷ r → all ≡ x ∷ (r ++ d ∷ [])
digit_after all prefix r x d last first = last ∙ ap (λ (t : List ℕ). t ++ d ∷ []) first

starts : (k n : ℕ) → length (decimal n) ≤ k → 1 ≤ n → n < 2 ^ 64 → Starts (decimal n)
starts zero n few some h =
    elim (leb_tells 10 n) [
      | inr t ↦ absurd (omega (arith, count_one n t.1, few))
      | inl s ↦ absurd (omega (arith, longer n s.1 h, few))
    ]
starts (suc k) n few some h =
    elim (leb_tells 10 n) [
      | inr t ↦ record { x = 48 + n; r = []; is = decimal_digit n t.1; digit = omega arith }
      | inl s ↦
          let w = starts k (n / 10) (omega (arith, longer n s.1 h, few)) (omega (arith, s.1)) (omega (arith, h)) in
          record { x = w.x; r = w.r ++ (48 + n % 10) ∷ []; is = digit_after (decimal n) (decimal (n / 10)) w.r w.x (48 + n % 10) (decimal_step n s.1 h) w.is; digit = w.digit }
    ]

pub one_zero_more : (l : List ℕ) → length (take_while (λ d. d == 48) (48 ∷ l)) ≡ suc (length (take_while (λ d. d == 48) l))
one_zero_more l = let e : 1 + prefix_len (λ d. d == 48) l ≡ suc (prefix_len (λ d. d == 48) l) = omega arith in rw e refl

zeros_then : (j x : ℕ) (r : List ℕ) → 48 < x → length (take_while (λ d. d == 48) (replicate j 48 ++ x ∷ r)) ≡ j
zeros_then zero x r h = let no : (x == 48) ≡ false = ne_eqb x 48 (λ e. omega (arith, h, e)) in rw no refl
zeros_then (suc j) x r h = one_zero_more (replicate j 48 ++ x ∷ r) ∙ ap suc (zeros_then j x r h)

-- the number of digits that are left after the leading zeros of eight, for a number that isn't 0 and for 0
pub middle_counted : (n m : ℕ) (digits : List ℕ) → n < 100000000 → length digits ≡ 8 → digits ≡ padded_decimal 4 (n / 10000) ++ padded_decimal 4 (n % 10000) → m ≡ min (length (take_while (λ d. d == 48) digits)) 7
    → 8 - m ≡ length (decimal n)
middle_counted n m digits small size are least =
    let z = length (take_while (λ d. d == 48) digits) in
    let eight : digits ≡ replicate (8 - length (decimal n)) 48 ++ decimal n = are ∙ eight_padded n (omega (arith, small)) ∙ padded_of 8 n in
    elim (leb_tells 1 n) [
      | inr t ↦
          let none : n ≡ 0 = omega (arith, t.1) in
          let all : digits ≡ replicate 8 48 = eight ∙ ap (λ k. replicate (8 - length (decimal k)) 48 ++ decimal k) none ∙ rw (decimal_digit 0 (omega arith)) refl in
          let zeros : z ≡ 8 = ap (λ (l : List ℕ). length (take_while (λ d. d == 48) l)) {y = replicate 8 48} all in
          omega (arith, least, zeros, none, count_one n (omega arith))
      | inl s ↦
          let w = starts (length (decimal n)) n (omega arith) s.1 (omega (arith, small)) in
          let few : length (decimal n) ≤ 8 = length-decimal-le 8 n (omega (arith, small)) (omega (arith, small)) (omega (arith, small)) in
          let zeros : z ≡ 8 - length (decimal n) = ap (λ (l : List ℕ). length (take_while (λ d. d == 48) l)) (eight ∙ ap (λ (t : List ℕ). replicate (8 - length (decimal n)) 48 ++ t) w.is) ∙ zeros_then (8 - length (decimal n)) w.x w.r w.digit in
          let some : length (decimal n) ≡ suc (length w.r) = ap length w.is in
          omega (arith, least, zeros, few, some)
    ]

-- ---- a number's lowest bytes

-- the first k of k + m bytes
take_low : (k m i n : ℕ) → take k (bytes_low_first i (k + m) n) ≡ bytes_low_first i k n
take_low zero m i n = refl
take_low (suc k) m i n =
    let e : suc k + m ≡ suc (k + m) = omega arith in
    ap (λ (j : ℕ). take (suc k) (bytes_low_first i j n)) e ∙ ap (λ (l : List ℕ). byte_at i n ∷ l) (take_low k m (suc i) n)

-- the last m of k + m bytes
drop_low : (k m i n : ℕ) → drop k (bytes_low_first i (k + m) n) ≡ bytes_low_first (i + k) m n
drop_low zero m i n =
    let e : i ≡ i + 0 = omega arith in
    let f : 0 + m ≡ m = omega arith in
    ap (λ (j : ℕ). bytes_low_first i j n) f ∙ ap (λ (j : ℕ). bytes_low_first j m n) e
drop_low (suc k) m i n =
    let e : suc i + k ≡ i + suc k = omega arith in
    let f : suc k + m ≡ suc (k + m) = omega arith in
    ap (λ (j : ℕ). drop (suc k) (bytes_low_first i j n)) f ∙ drop_low k m (suc i) n ∙ ap (λ (j : ℕ). bytes_low_first j m n) e

byte_of : (i n : ℕ) → byte_at i n ≡ n / 256 ^ i % 256
byte_of zero n = let e : n ≡ n / 1 = omega arith in ap (λ (k : ℕ). k % 256) e
byte_of (suc i) n = refl

byte_shifted : (i k n : ℕ) → byte_at i (n / 256 ^ k) ≡ byte_at (i + k) n
byte_shifted i k n =
    let e : 256 ^ k * 256 ^ i ≡ 256 ^ (i + k) = mul_comm (256 ^ k) (256 ^ i) ∙ sym (pow-add 256 i k) in
    byte_of i (n / 256 ^ k) ∙ ap (λ (m : ℕ). m % 256) (div-div-eq-div-mul n (256 ^ k) (256 ^ i) ∙ ap (λ (m : ℕ). n / m) e) ∙ sym (byte_of (i + k) n)

-- a number without its lowest k bytes
low_shifted : (m i k n : ℕ) → bytes_low_first i m (n / 256 ^ k) ≡ bytes_low_first (i + k) m n
low_shifted zero i k n = refl
low_shifted (suc m) i k n =
    let e : suc i + k ≡ suc (i + k) = omega arith in
    ap₂ (λ (b : ℕ) (l : List ℕ). b ∷ l) (byte_shifted i k n) (low_shifted m (suc i) k n ∙ ap (λ (j : ℕ). bytes_low_first j m n) e)

-- eight bytes shifted right by k bytes begin with the bytes after the first k
shifted_bytes : (k m n : ℕ) → k + m ≡ 8 → take m (to_le_bytes w64 (n / 256 ^ k)) ≡ drop k (to_le_bytes w64 n)
shifted_bytes k m n e =
    let other : m + k ≡ 8 = omega (arith, e) in
    ap (λ (j : ℕ). take m (bytes_low_first 0 j (n / 256 ^ k))) (sym other) ∙ take_low m k 0 (n / 256 ^ k) ∙ low_shifted m 0 k n
    ∙ sym (drop_low k m 0 n) ∙ ap (λ (j : ℕ). drop k (bytes_low_first 0 j n)) e

power_eight : (k : ℕ) → 2 ^ (8 * k) ≡ 256 ^ k
power_eight zero = refl
power_eight (suc k) =
    let e : 8 * suc k ≡ 8 + 8 * k = omega arith in
    ap (λ (j : ℕ). 2 ^ j) e ∙ pow-add 2 8 (8 * k) ∙ ap (λ (j : ℕ). 256 * j) (power_eight k) ∙ mul_comm 256 (256 ^ k) ∙ sym (pow-suc 256 k)

-- eight bytes as one number, without its lowest bytes
pub last_in_prefix_is : (bytes : List ℕ) (count whole : ℕ) → count ≤ 8 → length bytes ≡ 8 → ((i : ℕ) → get_or bytes i 0 < 256) → whole ≡ from_le_bytes w64 bytes
    → take count (to_le_bytes w64 (whole / 2 ^ (64 - 8 * count))) ≡ drop (8 - count) bytes
last_in_prefix_is bytes count whole le size are is =
    let k = 8 - count in
    let sum : k + count ≡ 8 = omega (arith, le) in
    let bits : 64 - 8 * count ≡ 8 * k = omega (arith, le) in
    let power : 2 ^ (64 - 8 * count) ≡ 256 ^ k = ap (λ (j : ℕ). 2 ^ j) bits ∙ power_eight k in
    ap (λ (m : ℕ). take count (to_le_bytes w64 (whole / m))) power ∙ shifted_bytes k count whole sum ∙ ap (drop k) (le_bytes_8 bytes whole size are is)

-- ---- eight digits without leading zeros

drop_zeros : (k j : ℕ) (s : List ℕ) → drop k (replicate (k + j) 48 ++ s) ≡ replicate j 48 ++ s
drop_zeros zero j s = let e : 0 + j ≡ j = omega arith in ap (λ (i : ℕ). replicate i 48 ++ s) e
drop_zeros (suc k) j s = let e : suc k + j ≡ suc (k + j) = omega arith in ap (λ (i : ℕ). drop (suc k) (replicate i 48 ++ s)) e ∙ drop_zeros k j s

-- the last digits of a number's eight, if the others are zeros
pub last_digits : (n count : ℕ) → n < 2 ^ 64 → length (decimal n) ≤ count → count ≤ 8 → drop (8 - count) (padded_decimal 4 (n / 10000) ++ padded_decimal 4 (n % 10000)) ≡ padded_decimal count n
last_digits n count h fits le =
    let k = 8 - count in
    let j = count - length (decimal n) in
    let zeros : 8 - length (decimal n) ≡ k + j = omega (arith, fits, le) in
    ap (drop k) (eight_padded n h ∙ padded_of 8 n ∙ ap (λ (i : ℕ). replicate i 48 ++ decimal n) zeros) ∙ drop_zeros k j (decimal n) ∙ sym (padded_of count n)

-- all its digits
pub own_digits : (n count : ℕ) → n < 2 ^ 64 → count ≡ length (decimal n) → count ≤ 8 → drop (8 - count) (padded_decimal 4 (n / 10000) ++ padded_decimal 4 (n % 10000)) ≡ decimal n
own_digits n count h e le = last_digits n count h (omega (arith, e)) le ∙ whole_padded count n e

-- n digits if the number is below 10 ^ n
pub small_digits : (n count : ℕ) → 1 ≤ count → count ≤ 8 → n < 10 ^ count → drop (8 - count) (padded_decimal 4 (n / 10000) ++ padded_decimal 4 (n % 10000)) ≡ padded_decimal count n
small_digits n count some le small =
    let ten : 0 < 10 = omega arith in
    let most : n < 2 ^ 64 = omega (arith, small, pow-le-pow_right {n = 10} ten le) in
    last_digits n count most (length-decimal-le count n some small most) le

pub below_eight : (n count : ℕ) → count ≤ 8 → n < 10 ^ count → n < 100000000
below_eight n count le small = let ten : 0 < 10 = omega arith in omega (arith, small, pow-le-pow_right {n = 10} ten le)

-- only the first `count` of eight bytes that were written count
pub prefix_counts : (at count r : ℕ) (old new digits all piece shown : List ℕ) → at ≤ length old → count ≤ 8 → digits ≡ all → drop (8 - count) all ≡ shown → take count piece ≡ drop (8 - count) digits
    → r ≡ at + length piece → length piece ≡ 8 → take r new ≡ take at old ++ piece → take (at + count) new ≡ take at old ++ shown
prefix_counts at count r old new digits all piece shown room le are last shifted r8 p8 written =
    let prefix = take at old in
    let len : length prefix ≡ at = length-take-le at old room in
    sym (take-take (at + count) r new (omega (arith, le, r8, p8)))
    ∙ ap (take (at + count)) written
    ∙ ap (λ (j : ℕ). take (j + count) (prefix ++ piece)) (sym len)
    ∙ take-add (length prefix) count (prefix ++ piece)
    ∙ ap₂ (λ (a b : List ℕ). a ++ take count b) (take-append_seam prefix piece) (drop-append_seam prefix piece)
    ∙ ap (λ (t : List ℕ). prefix ++ t) (shifted ∙ ap (drop (8 - count)) are ∙ last)

pub padded_zeros : padded_decimal 6 0 ≡ 48 ∷ 48 ∷ 48 ∷ 48 ∷ 48 ∷ 48 ∷ []
unfolding padded_decimal digits
padded_zeros = refl

-- ---- digits as the bytes of a number

-- the two bytes of a pair are a number
pub pair_number : (n tens ones whole : ℕ) → n < 100 → tens ≡ get_or PAIRS (n * 2) 0 → ones ≡ get_or PAIRS (n * 2 + 1) 0 → whole ≡ from_le_bytes w16 (tens ∷ ones ∷ []) → whole ≡ 48 + n / 10 + 256 * (48 + n % 10)
pair_number n tens ones whole h a b is =
    let p = PAIRS_at n h in
    let x : tens ≡ 48 + n / 10 = a ∙ p.0 in
    let y : ones ≡ 48 + n % 10 = b ∙ p.1 in
    is ∙ rw (x, y) (omega arith)

-- four digits are two pairs
pub four_number : (n first second whole : ℕ) → n < 10000 → first ≡ 48 + n / 100 / 10 + 256 * (48 + n / 100 % 10) → second ≡ 48 + (n - 100 * (n / 100)) / 10 + 256 * (48 + (n - 100 * (n / 100)) % 10) → whole ≡ first + 65536 * second
    → whole ≡ 48 + n / 1000 + 256 * (48 + n / 100 % 10) + 65536 * (48 + n / 10 % 10) + 16777216 * (48 + n % 10)
four_number n first second whole h a b is = omega (arith, h, a, b, is)

-- the bytes of a number of eight bytes
bytes_eight : (a b c d e f g h whole : ℕ) → a < 256 → b < 256 → c < 256 → d < 256 → e < 256 → f < 256 → g < 256 → h < 256
    → whole ≡ a + 256 * b + 65536 * c + 16777216 * d + 4294967296 * (e + 256 * f + 65536 * g + 16777216 * h)
    → to_le_bytes w64 whole ≡ a ∷ b ∷ c ∷ d ∷ e ∷ f ∷ g ∷ h ∷ []
bytes_eight a b c d e f g h whole la lb lc ld le lf lg lh is =
    let one : whole % 256 ≡ a = omega (arith, la, is) in
    let two : whole / 256 % 256 ≡ b = omega (arith, la, lb, is) in
    let three : whole / 65536 % 256 ≡ c = omega (arith, la, lb, lc, is) in
    let four : whole / 16777216 % 256 ≡ d = omega (arith, la, lb, lc, ld, is) in
    let five : whole / 4294967296 % 256 ≡ e = omega (arith, la, lb, lc, ld, le, is) in
    let six : whole / 1099511627776 % 256 ≡ f = omega (arith, la, lb, lc, ld, le, lf, is) in
    let seven : whole / 281474976710656 % 256 ≡ g = omega (arith, la, lb, lc, ld, le, lf, lg, is) in
    let eight : whole / 72057594037927936 % 256 ≡ h = omega (arith, la, lb, lc, ld, le, lf, lg, lh, is) in
    rw (one, two, three, four, five, six, seven, eight) refl

-- four digits, each by itself
pub four_apart : (n : ℕ) → n < 10000 → padded_decimal 4 n ≡ (48 + n / 1000) ∷ (48 + n / 100 % 10) ∷ (48 + n / 10 % 10) ∷ (48 + n % 10) ∷ []
four_apart n h =
    let a : n / 100 / 10 ≡ n / 1000 = omega arith in
    let b : n % 100 / 10 ≡ n / 10 % 10 = omega arith in
    let c : n % 100 % 10 ≡ n % 10 = omega arith in
    padded_two_more 1 n (omega (arith, h)) ∙ rw (padded_pair (n / 100) (omega (arith, h)), padded_pair (n % 100) (omega arith), a, b, c) refl

abbrev four_value : ℕ → ℕ
four_value n = 48 + n / 1000 + 256 * (48 + n / 100 % 10) + 65536 * (48 + n / 10 % 10) + 16777216 * (48 + n % 10)

-- eight digits are twice four
pub eight_bytes : (n first second whole : ℕ) → n < 100000000 → first ≡ four_value (n / 10000) → second ≡ four_value (n - 10000 * (n / 10000)) → whole ≡ first + 4294967296 * second
    → to_le_bytes w64 whole ≡ padded_decimal 4 (n / 10000) ++ padded_decimal 4 (n % 10000)
eight_bytes n first second whole h a b is =
    let high = n / 10000 in
    let low = n % 10000 in
    let same : n - 10000 * (n / 10000) ≡ low = omega arith in
    let c : second ≡ four_value low = b ∙ ap four_value same in
    let ha : high < 10000 = omega (arith, h) in
    let lo : low < 10000 = omega arith in
    bytes_eight (48 + high / 1000) (48 + high / 100 % 10) (48 + high / 10 % 10) (48 + high % 10) (48 + low / 1000) (48 + low / 100 % 10) (48 + low / 10 % 10) (48 + low % 10) whole
    (omega (arith, ha)) (omega arith) (omega arith) (omega arith) (omega (arith, lo)) (omega arith) (omega arith) (omega arith) (is ∙ rw (a, c) refl)
    ∙ rw (four_apart high ha, four_apart low lo) refl

-- ---- a number below 100 without a leading zero

-- a byte may be overwritten
pub short_pair : (at one end more n tens ones : ℕ) (old mid new : List ℕ) → n < 100 → at + 2 ≤ length old → (10 ≤ n → more ≡ 1) → (n < 10 → more ≡ 0) → tens ≡ get_or PAIRS (n * 2) 0 → ones ≡ get_or PAIRS (n * 2 + 1) 0
    → one ≡ at + 1 → take one mid ≡ take at old ++ tens ∷ [] → take end new ≡ take (at + more) mid ++ ones ∷ [] → take end new ≡ take at old ++ decimal n
short_pair at one end more n tens ones old mid new h room high low a b next first last =
    let p = PAIRS_at n h in
    let len : length (take at old) ≡ at = length-take-le at old (omega (arith, room)) in
    let kept : take at mid ≡ take at old =
    sym (take-take at one mid (omega (arith, next))) ∙ ap (take at) first ∙ take-append-le at (take at old) (tens ∷ []) (omega (arith, len)) ∙ take-take at at old (omega arith) in
    elim (leb_tells 10 n) [
      | inl t ↦
          let both : at + more ≡ one = omega (arith, high t.1, next) in
          last ∙ ap (λ (i : ℕ). take i mid ++ ones ∷ []) both ∙ ap (λ (l : List ℕ). l ++ ones ∷ []) first ∙ append_assoc (take at old) (tens ∷ []) (ones ∷ [])
          ∙ ap (λ (l : List ℕ). take at old ++ l) (rw (a, b, p.0, p.1) (sym (padded_pair n h)) ∙ decimal_two n t.1 h)
      | inr t ↦
          let none : at + more ≡ at = omega (arith, low (omega (arith, t.1))) in
          let few : n < 10 = omega (arith, t.1) in
          let same : n % 10 ≡ n = omega (arith, few) in
          last ∙ ap (λ (i : ℕ). take i mid ++ ones ∷ []) none ∙ ap (λ (l : List ℕ). l ++ ones ∷ []) kept
          ∙ ap (λ (l : List ℕ). take at old ++ l) (rw (b, p.1, same) (sym (decimal_digit n few)))
    ]

pub short_pair_len : (more n : ℕ) → n < 100 → (10 ≤ n → more ≡ 1) → (n < 10 → more ≡ 0) → more + 1 ≡ length (decimal n)
short_pair_len more n h high low = elim (leb_tells 10 n) [
  | inl t ↦ omega (arith, high t.1, count_two n t.1 h)
  | inr t ↦ let few : n < 10 = omega (arith, t.1) in omega (arith, low few, count_one n few)
]
