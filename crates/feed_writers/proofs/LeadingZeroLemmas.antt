-- The leading zeros of eight digits, by the lowest set bit of their values.
use Rattle.std.proofs.Common.{◌≡◌, ℕ, zero, suc, ◌+◌, ◌-◌, ◌*◌, ◌/◌, ◌%◌, ◌<◌, ◌≤◌, false, List, [], ◌∷◌, ◌++◌, length, min, refl, ap, ◌∙◌, inl, inr, arith, eq-zero-or-pos}
use Rattle.std.specs.Prelude.{◌==◌, take_while, All}
use Rattle.std.specs.Bool.{⊤}
use Rattle.std.specs.Int.{w64, from_le_bytes}
use Rattle.std.proofs.lemmas.Bool.{ne_eqb}
use Rattle.rows_values.specs.TimeTexts.{padded_decimal}
use Rattle.feed_writers.proofs.DigitLemmas.{four_apart, one_zero_more}
use lib.Count.{count_trailing_zeros}

abbrev pub IsDigit : ℕ → Type 0
IsDigit d = (48 ≤ d) × (d ≤ 57)

abbrev AreDigits : List ℕ → Type 0
AreDigits [] = ⊤
AreDigits (d ∷ r) = IsDigit d × AreDigits r

-- eight digits, each by itself
each_of_eight : (a b c d e f g h : ℕ) → IsDigit a → IsDigit b → IsDigit c → IsDigit d → IsDigit e → IsDigit f → IsDigit g → IsDigit h → All IsDigit (a ∷ b ∷ c ∷ d ∷ e ∷ f ∷ g ∷ h ∷ [])
each_of_eight a b c d e f g h ia ib ic id ie if_ ig ih zero _ _ = ia
each_of_eight a b c d e f g h ia ib ic id ie if_ ig ih (suc zero) _ _ = ib
each_of_eight a b c d e f g h ia ib ic id ie if_ ig ih (suc (suc zero)) _ _ = ic
each_of_eight a b c d e f g h ia ib ic id ie if_ ig ih (suc (suc (suc zero))) _ _ = id
each_of_eight a b c d e f g h ia ib ic id ie if_ ig ih (suc (suc (suc (suc zero)))) _ _ = ie
each_of_eight a b c d e f g h ia ib ic id ie if_ ig ih (suc (suc (suc (suc (suc zero))))) _ _ = if_
each_of_eight a b c d e f g h ia ib ic id ie if_ ig ih (suc (suc (suc (suc (suc (suc zero)))))) _ _ = ig
each_of_eight a b c d e f g h ia ib ic id ie if_ ig ih (suc (suc (suc (suc (suc (suc (suc zero))))))) _ _ = ih
each_of_eight a b c d e f g h ia ib ic id ie if_ ig ih (suc (suc (suc (suc (suc (suc (suc (suc k)))))))) _ l = absurd (omega (arith, l))

-- ---- the lowest set bit

even_more : (k n : ℕ) → n % 2 ≡ 0 → count_trailing_zeros (suc k) n ≡ suc (count_trailing_zeros k (n / 2))
unfolding count_trailing_zeros
even_more k n h = rw h refl

odd_none : (k n : ℕ) → n % 2 ≡ 1 → count_trailing_zeros (suc k) n ≡ 0
unfolding count_trailing_zeros
odd_none k n h = rw h refl

no_bits : (n : ℕ) → count_trailing_zeros 0 n ≡ 0
unfolding count_trailing_zeros
no_bits n = refl

step : (i k n : ℕ) → (n % 2 ≡ 0 → count_trailing_zeros k (n / 2) < i) → count_trailing_zeros (suc k) n < suc i
step i k n h =
    elim (eq-zero-or-pos (n % 2)) [
      | inl e ↦ omega (arith, even_more k n e, h e)
      | inr o ↦ omega (arith, odd_none k n (omega (arith, o)))
    ]

below_1 : (k n : ℕ) → 0 < n % 2 → count_trailing_zeros k n < 1
below_1 zero n h = omega (arith, no_bits n)
below_1 (suc k) n h = omega (arith, odd_none k n (omega (arith, h)))

below_2 : (k n : ℕ) → 0 < n % 4 → count_trailing_zeros k n < 2
below_2 zero n h = omega (arith, no_bits n)
below_2 (suc k) n h = step 1 k n (λ e. below_1 k (n / 2) (omega (arith, h, e)))

below_3 : (k n : ℕ) → 0 < n % 8 → count_trailing_zeros k n < 3
below_3 zero n h = omega (arith, no_bits n)
below_3 (suc k) n h = step 2 k n (λ e. below_2 k (n / 2) (omega (arith, h, e)))

below_4 : (k n : ℕ) → 0 < n % 16 → count_trailing_zeros k n < 4
below_4 zero n h = omega (arith, no_bits n)
below_4 (suc k) n h = step 3 k n (λ e. below_3 k (n / 2) (omega (arith, h, e)))

below_5 : (k n : ℕ) → 0 < n % 32 → count_trailing_zeros k n < 5
below_5 zero n h = omega (arith, no_bits n)
below_5 (suc k) n h = step 4 k n (λ e. below_4 k (n / 2) (omega (arith, h, e)))

below_6 : (k n : ℕ) → 0 < n % 64 → count_trailing_zeros k n < 6
below_6 zero n h = omega (arith, no_bits n)
below_6 (suc k) n h = step 5 k n (λ e. below_5 k (n / 2) (omega (arith, h, e)))

below_7 : (k n : ℕ) → 0 < n % 128 → count_trailing_zeros k n < 7
below_7 zero n h = omega (arith, no_bits n)
below_7 (suc k) n h = step 6 k n (λ e. below_6 k (n / 2) (omega (arith, h, e)))

-- the lowest byte isn't zero
below_8 : (k n : ℕ) → 0 < n % 256 → count_trailing_zeros k n < 8
below_8 zero n h = omega (arith, no_bits n)
below_8 (suc k) n h = step 7 k n (λ e. below_7 k (n / 2) (omega (arith, h, e)))

-- the lowest byte is zero
twice : (k n : ℕ) → count_trailing_zeros (suc k) (2 * n) ≡ suc (count_trailing_zeros k n)
twice k n =
    let half : 2 * n / 2 ≡ n = omega arith in
    even_more k (2 * n) (omega arith) ∙ ap (λ (m : ℕ). suc (count_trailing_zeros k m)) half

abbrev by_eight : ℕ → ℕ
by_eight k = suc (suc (suc (suc (suc (suc (suc (suc k)))))))

shifted : (k n : ℕ) → count_trailing_zeros (by_eight k) (256 * n) ≡ count_trailing_zeros k n + 8
shifted k n =
    let a : 256 * n ≡ 2 * (2 * (2 * (2 * (2 * (2 * (2 * (2 * n))))))) = omega arith in
    let x = twice k n in
    let b = twice (suc k) (2 * n) in
    let c = twice (suc (suc k)) (2 * (2 * n)) in
    let d = twice (suc (suc (suc k))) (2 * (2 * (2 * n))) in
    let e = twice (suc (suc (suc (suc k)))) (2 * (2 * (2 * (2 * n)))) in
    let f = twice (suc (suc (suc (suc (suc k))))) (2 * (2 * (2 * (2 * (2 * n))))) in
    let g = twice (suc (suc (suc (suc (suc (suc k)))))) (2 * (2 * (2 * (2 * (2 * (2 * n)))))) in
    let h = twice (suc (suc (suc (suc (suc (suc (suc k))))))) (2 * (2 * (2 * (2 * (2 * (2 * (2 * n))))))) in
    ap (count_trailing_zeros (by_eight k)) a ∙ omega (arith, x, b, c, d, e, f, g, h)

-- ---- digits

-- the values of digits as the bytes of a number, with a bit above the last
abbrev value : List ℕ → ℕ
value [] = 0
value (d ∷ []) = d + 80
value (d ∷ e ∷ r) = d - 48 + 256 * value (e ∷ r)

none_first : (d : ℕ) (r : List ℕ) → (d ≡ 48 → ⊥) → length (take_while (λ x. x == 48) (d ∷ r)) ≡ 0
none_first d r h = let no : (d == 48) ≡ false = ne_eqb d 48 h in rw no refl

zeros_first : (d : ℕ) (r : List ℕ) → AreDigits (d ∷ r) → count_trailing_zeros (8 * length (d ∷ r)) (value (d ∷ r)) / 8 ≡ min (length (take_while (λ x. x == 48) (d ∷ r))) (length r)
zeros_first d [] are =
    let is = are.0 in
    let few = below_8 (8 * length (d ∷ [])) (d + 80) (omega (arith, is.0, is.1)) in
    omega (arith, few)
zeros_first d (e ∷ r) are =
    let is = are.0 in
    elim (eq-zero-or-pos (d - 48)) [
      | inl z ↦
          let same : d ≡ 48 = omega (arith, z, is.0) in
          let long : 8 * length (d ∷ e ∷ r) ≡ by_eight (8 * length (e ∷ r)) = omega arith in
          let whole : d - 48 + 256 * value (e ∷ r) ≡ 256 * value (e ∷ r) = omega (arith, same) in
          let count = ap (λ (k : ℕ). count_trailing_zeros k (d - 48 + 256 * value (e ∷ r))) long ∙ ap (count_trailing_zeros (by_eight (8 * length (e ∷ r)))) whole ∙ shifted (8 * length (e ∷ r)) (value (e ∷ r)) in
          let more = zeros_first e r are.1 in
          let first : length (take_while (λ x. x == 48) (d ∷ e ∷ r)) ≡ suc (length (take_while (λ x. x == 48) (e ∷ r))) = ap (λ (x : ℕ). length (take_while (λ x. x == 48) (x ∷ e ∷ r))) same ∙ one_zero_more (e ∷ r) in
          omega (arith, count, more, first)
      | inr o ↦
          let few = below_8 (8 * length (d ∷ e ∷ r)) (d - 48 + 256 * value (e ∷ r)) (omega (arith, o, is.0, is.1)) in
          let none = none_first d (e ∷ r) (λ s. omega (arith, o, s)) in
          omega (arith, few, none)
    ]

-- eight digits
pub zeros_of_eight : (digits : List ℕ) (whole : ℕ) → length digits ≡ 8 → All IsDigit digits → whole ≡ from_le_bytes w64 digits
    → count_trailing_zeros 64 (whole - 3472328296227680304 + 9223372036854775808) / 8 ≡ min (length (take_while (λ x. x == 48) digits)) 7
zeros_of_eight [] whole size are is = absurd (omega arith)
zeros_of_eight (a ∷ []) whole size are is = absurd (omega arith)
zeros_of_eight (a ∷ b ∷ []) whole size are is = absurd (omega arith)
zeros_of_eight (a ∷ b ∷ c ∷ []) whole size are is = absurd (omega arith)
zeros_of_eight (a ∷ b ∷ c ∷ d ∷ []) whole size are is = absurd (omega arith)
zeros_of_eight (a ∷ b ∷ c ∷ d ∷ e ∷ []) whole size are is = absurd (omega arith)
zeros_of_eight (a ∷ b ∷ c ∷ d ∷ e ∷ f ∷ []) whole size are is = absurd (omega arith)
zeros_of_eight (a ∷ b ∷ c ∷ d ∷ e ∷ f ∷ g ∷ []) whole size are is = absurd (omega arith)
zeros_of_eight (a ∷ b ∷ c ∷ d ∷ e ∷ f ∷ g ∷ h ∷ i ∷ r) whole size are is = absurd (omega (arith, size))
zeros_of_eight (a ∷ b ∷ c ∷ d ∷ e ∷ f ∷ g ∷ h ∷ []) whole size are is =
    let ia : IsDigit a = are 0 0 (omega arith) in
    let ib : IsDigit b = are 1 0 (omega arith) in
    let ic : IsDigit c = are 2 0 (omega arith) in
    let id : IsDigit d = are 3 0 (omega arith) in
    let ie : IsDigit e = are 4 0 (omega arith) in
    let if_ : IsDigit f = are 5 0 (omega arith) in
    let ig : IsDigit g = are 6 0 (omega arith) in
    let ih : IsDigit h = are 7 0 (omega arith) in
    let sum : whole ≡ a + 256 * b + 65536 * c + 16777216 * d + 4294967296 * e + 1099511627776 * f + 281474976710656 * g + 72057594037927936 * h = is ∙ omega arith in
    let same : whole - 3472328296227680304 + 9223372036854775808 ≡ value (a ∷ b ∷ c ∷ d ∷ e ∷ f ∷ g ∷ h ∷ []) = omega (arith, sum, ia.0, ib.0, ic.0, id.0, ie.0, if_.0, ig.0, ih.0) in
    ap (λ (n : ℕ). count_trailing_zeros 64 n / 8) same ∙ zeros_first a (b ∷ c ∷ d ∷ e ∷ f ∷ g ∷ h ∷ []) (ia, (ib, (ic, (id, (ie, (if_, (ig, (ih, tt))))))))

-- the digits of a number are digits
pub all_digits : (n : ℕ) (digits : List ℕ) → n < 100000000 → digits ≡ padded_decimal 4 (n / 10000) ++ padded_decimal 4 (n % 10000) → All IsDigit digits
all_digits n digits h are =
    let high = n / 10000 in
    let low = n % 10000 in
    let ha : high < 10000 = omega (arith, h) in
    let lo : low < 10000 = omega arith in
    let eight : digits ≡ (48 + high / 1000) ∷ (48 + high / 100 % 10) ∷ (48 + high / 10 % 10) ∷ (48 + high % 10) ∷ (48 + low / 1000) ∷ (48 + low / 100 % 10) ∷ (48 + low / 10 % 10) ∷ (48 + low % 10) ∷ [] = are ∙ rw (four_apart high ha, four_apart low lo) refl in
    rw eight (each_of_eight (48 + high / 1000) (48 + high / 100 % 10) (48 + high / 10 % 10) (48 + high % 10) (48 + low / 1000) (48 + low / 100 % 10) (48 + low / 10 % 10) (48 + low % 10)
    (omega arith, omega (arith, ha)) (omega arith, omega arith) (omega arith, omega arith) (omega arith, omega arith) (omega arith, omega (arith, lo)) (omega arith, omega arith) (omega arith, omega arith) (omega arith, omega arith))
