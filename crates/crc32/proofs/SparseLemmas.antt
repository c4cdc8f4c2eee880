-- The generator divides x^2400 + x^1240 + x^936 + x^712 + 1: sixteen bytes leave the same register if they are
-- added to the bytes 145, 183, 211 and 300 offsets after them.
use Rattle.std.proofs.Common.{◌≡◌, ℕ, zero, suc, ◌+◌, ◌-◌, ◌*◌, ◌/◌, ◌%◌, ◌^◌, ◌<◌, bit_xor, refl, sym, ap, subst, ◌∙◌, arith}
use Rattle.std.proofs.Math.Nat.{pow-suc, mul_assoc}
use Rattle.std.proofs.lemmas.Nat.{pow_pos}
use lib.Bits.{xor_block}
use Rattle.crc32.specs.Shortening.{xor_of_four}
use Rattle.crc32.proofs.ZerosLemmas.{step, steps, zeros, xor_split, xor_swap, step-xor, zeros-xor, step-even}

pub xor_of_four-xor : (a b c d p q r s : ℕ) → xor_of_four (bit_xor a p) (bit_xor b q) (bit_xor c r) (bit_xor d s) ≡ bit_xor (xor_of_four a b c d) (xor_of_four p q r s)
xor_of_four-xor a b c d p q r s =
    ap (λ (y : ℕ). bit_xor (bit_xor y (bit_xor c r)) (bit_xor d s)) (xor_swap a p b q)
    ∙ ap (λ (y : ℕ). bit_xor y (bit_xor d s)) (xor_swap (bit_xor a b) (bit_xor p q) c r)
    ∙ xor_swap (bit_xor (bit_xor a b) c) (bit_xor (bit_xor p q) r) d s

pub xor_of_four-zeros : (n a b c d : ℕ) → zeros n (xor_of_four a b c d) ≡ xor_of_four (zeros n a) (zeros n b) (zeros n c) (zeros n d)
xor_of_four-zeros n a b c d =
    zeros-xor n (bit_xor (bit_xor a b) c) d
    ∙ ap (λ (y : ℕ). bit_xor y (zeros n d)) (zeros-xor n (bit_xor a b) c ∙ ap (λ (y : ℕ). bit_xor y (zeros n c)) (zeros-xor n a b))

xor_moved : (k a b : ℕ) → bit_xor (a * 2 ^ k) (b * 2 ^ k) ≡ bit_xor a b * 2 ^ k
xor_moved k a b =
    let z : 0 < 2 ^ k = pow_pos k in
    let p : a * 2 ^ k ≡ a * 2 ^ k + 0 = omega arith in
    let q : b * 2 ^ k ≡ b * 2 ^ k + 0 = omega arith in
    ap (λ (y : ℕ). bit_xor y (b * 2 ^ k)) p ∙ ap (bit_xor (a * 2 ^ k + 0)) q ∙ xor_block k a b 0 0 z z ∙ omega arith

xor_of_four-step : (a b c d : ℕ) → step (xor_of_four a b c d) ≡ xor_of_four (step a) (step b) (step c) (step d)
xor_of_four-step a b c d =
    step-xor (bit_xor (bit_xor a b) c) d
    ∙ ap (λ (y : ℕ). bit_xor y (step d)) (step-xor (bit_xor a b) c ∙ ap (λ (y : ℕ). bit_xor y (step c)) (step-xor a b))

steps-step : (n x : ℕ) → steps n (step x) ≡ step (steps n x)
unfolding steps
steps-step zero x = refl
steps-step (suc n) x = steps-step n (step x)

zeros-step : (n x : ℕ) → zeros n (step x) ≡ step (zeros n x)
unfolding zeros
zeros-step zero x = refl
zeros-step (suc n) x = ap (zeros n) (steps-step 8 x) ∙ zeros-step n (steps 8 x)

-- the register 316 bytes after x, if x is added at the four distances
added_again : ℕ → ℕ
added_again x = xor_of_four (zeros 16 x) (zeros 105 x) (zeros 133 x) (zeros 171 x)

again-step : (x : ℕ) → added_again (step x) ≡ step (added_again x)
unfolding added_again
again-step x =
    ap (λ (y : ℕ). xor_of_four y (zeros 105 (step x)) (zeros 133 (step x)) (zeros 171 (step x))) (zeros-step 16 x)
    ∙ ap (λ (y : ℕ). xor_of_four (step (zeros 16 x)) y (zeros 133 (step x)) (zeros 171 (step x))) (zeros-step 105 x)
    ∙ ap (λ (y : ℕ). xor_of_four (step (zeros 16 x)) (step (zeros 105 x)) y (zeros 171 (step x))) (zeros-step 133 x)
    ∙ ap (λ (y : ℕ). xor_of_four (step (zeros 16 x)) (step (zeros 105 x)) (step (zeros 133 x)) y) (zeros-step 171 x)
    ∙ sym (xor_of_four-step (zeros 16 x) (zeros 105 x) (zeros 133 x) (zeros 171 x))

again-xor : (x y : ℕ) → added_again (bit_xor x y) ≡ bit_xor (added_again x) (added_again y)
unfolding added_again
again-xor x y =
    ap (λ (z : ℕ). xor_of_four z (zeros 105 (bit_xor x y)) (zeros 133 (bit_xor x y)) (zeros 171 (bit_xor x y))) (zeros-xor 16 x y)
    ∙ ap (λ (z : ℕ). xor_of_four (bit_xor (zeros 16 x) (zeros 16 y)) z (zeros 133 (bit_xor x y)) (zeros 171 (bit_xor x y))) (zeros-xor 105 x y)
    ∙ ap (λ (z : ℕ). xor_of_four (bit_xor (zeros 16 x) (zeros 16 y)) (bit_xor (zeros 105 x) (zeros 105 y)) z (zeros 171 (bit_xor x y))) (zeros-xor 133 x y)
    ∙ ap (λ (z : ℕ). xor_of_four (bit_xor (zeros 16 x) (zeros 16 y)) (bit_xor (zeros 105 x) (zeros 105 y)) (bit_xor (zeros 133 x) (zeros 133 y)) z) (zeros-xor 171 x y)
    ∙ xor_of_four-xor (zeros 16 x) (zeros 105 x) (zeros 133 x) (zeros 171 x) (zeros 16 y) (zeros 105 y) (zeros 133 y) (zeros 171 y)

-- the same if it isn't added
abbrev Sparse : ℕ → Type 0
Sparse x = zeros 316 x ≡ added_again x

-- by computing both sides
highest : Sparse (2 ^ 127)
unfolding zeros steps step added_again
highest = refl

nothing : Sparse 0
unfolding zeros steps step added_again
nothing = refl

-- the polynomial is multiplied by x, and the equation still holds
lower : (x : ℕ) → Sparse x → Sparse (step x)
lower x e = zeros-step 316 x ∙ ap step e ∙ sym (again-step x)

both : (x y : ℕ) → Sparse x → Sparse y → Sparse (bit_xor x y)
both x y e f = zeros-xor 316 x y ∙ ap (λ (z : ℕ). bit_xor z (zeros 316 y)) e ∙ ap (bit_xor (added_again x)) f ∙ sym (again-xor x y)

-- one digit
digit : (j k : ℕ) → k + j ≡ 127 → Sparse (2 ^ k)
digit zero k e = let f : k ≡ 127 = omega (arith, e) in subst (λ (n : ℕ). Sparse (2 ^ n)) (sym f) highest
digit (suc j) k e =
    let above : Sparse (2 ^ suc k) = digit j (suc k) (omega (arith, e)) in
    subst Sparse (ap step (pow-suc 2 k) ∙ step-even (2 ^ k)) (lower (2 ^ suc k) above)

-- one digit or none
last_digit : (d k : ℕ) → d < 2 → k < 128 → Sparse (d * 2 ^ k)
last_digit zero k h l = (let f : 0 ≡ 0 * 2 ^ k = omega arith in subst Sparse f nothing)
last_digit (suc zero) k h l =
    let one : 2 ^ k ≡ 1 * 2 ^ k = omega arith in
    subst Sparse one (digit (127 - k) k (omega arith))
last_digit (suc (suc d)) k h l = absurd (omega arith)

shifted : (n k x : ℕ) → n + k ≡ 128 → x < 2 ^ n → Sparse (x * 2 ^ k)
shifted zero k x e h =
    let z : x ≡ 0 = omega (arith, h) in
    let f : 0 ≡ x * 2 ^ k = (let g : 0 * 2 ^ k ≡ x * 2 ^ k = ap (λ (y : ℕ). y * 2 ^ k) (sym z) in omega arith) in
    subst Sparse f nothing
shifted (suc n) k x e h =
    let half : x / 2 < 2 ^ n = (let p : 2 ^ suc n ≡ 2 ^ n * 2 = pow-suc 2 n in omega arith) in
    let high : Sparse (x / 2 * 2 ^ suc k) = shifted n (suc k) (x / 2) (omega (arith, e)) half in
    let low : Sparse (x % 2 * 2 ^ k) = last_digit (x % 2) k (omega arith) (omega (arith, e)) in
    let parts : x ≡ x % 2 + x / 2 * 2 ^ 1 = omega arith in
    let p : bit_xor (x % 2) (x / 2 * 2) ≡ x = xor_split 1 (x / 2) (x % 2) (omega arith) ∙ sym parts in
    let q : x / 2 * 2 * 2 ^ k ≡ x / 2 * 2 ^ suc k = mul_assoc (x / 2) 2 (2 ^ k) ∙ ap (λ (y : ℕ). x / 2 * y) (omega (arith, pow-suc 2 k)) in
    let r : bit_xor (x % 2 * 2 ^ k) (x / 2 * 2 * 2 ^ k) ≡ bit_xor (x % 2) (x / 2 * 2) * 2 ^ k = xor_moved k (x % 2) (x / 2 * 2) in
    subst Sparse
    (ap (bit_xor (x % 2 * 2 ^ k)) (sym q) ∙ r ∙ ap (λ (y : ℕ). y * 2 ^ k) p)
    (both (x % 2 * 2 ^ k) (x / 2 * 2 ^ suc k) low high)

pub sparse : (x : ℕ) → x < 2 ^ 128 → zeros 316 x ≡ xor_of_four (zeros 16 x) (zeros 105 x) (zeros 133 x) (zeros 171 x)
unfolding added_again
sparse x h = (let f : x * 2 ^ 0 ≡ x = omega arith in subst Sparse f (shifted 128 0 x refl h))
