-- Zeros that shift through the register: the result is linear over exclusive-or.
use Rattle.std.proofs.Common.{◌≡◌, ℕ, zero, suc, ◌+◌, ◌*◌, ◌/◌, ◌%◌, ◌^◌, ◌<◌, bit_xor, refl, sym, ap, ◌∙◌, arith}
use lib.Bits.{xor_assoc, xor_comm, xor_shr, xor_mod, xor_zero_r, xor_block}
use Rattle.std.proofs.lemmas.Nat.{pow_pos}
use Rattle.std.proofs.Math.Nat.{pow-suc, mul_assoc}
use Rattle.crc32.specs.Checksums.{polynomial}

-- the register after a bit that is 0
unfoldable pub step : ℕ → ℕ
step x = bit_xor (x / 2) (x % 2 * polynomial)

-- after n bits that are 0
unfoldable pub steps : ℕ → ℕ → ℕ
steps zero x = x
steps (suc n) x = steps n (step x)

-- after n bytes that are 0
unfoldable pub zeros : ℕ → ℕ → ℕ
zeros zero x = x
zeros (suc n) x = zeros n (steps 8 x)

-- ---- exclusive-or

-- the two in the middle are swapped
pub xor_swap : (p q r s : ℕ) → bit_xor (bit_xor p q) (bit_xor r s) ≡ bit_xor (bit_xor p r) (bit_xor q s)
xor_swap p q r s =
    xor_assoc p q (bit_xor r s)
    ∙ ap (bit_xor p) (sym (xor_assoc q r s) ∙ ap (λ (x : ℕ). bit_xor x s) (xor_comm q r) ∙ xor_assoc r q s)
    ∙ sym (xor_assoc p r (bit_xor q s))

-- a number is its low digits plus its high ones
pub xor_split : (k a r : ℕ) → r < 2 ^ k → bit_xor r (a * 2 ^ k) ≡ r + a * 2 ^ k
xor_split k a r h =
    let b : bit_xor (0 * 2 ^ k + r) (a * 2 ^ k + 0) ≡ a * 2 ^ k + bit_xor r 0 = xor_block k 0 a r 0 h (pow_pos k) in
    let l : r ≡ 0 * 2 ^ k + r = omega arith in
    let m : a * 2 ^ k ≡ a * 2 ^ k + 0 = omega arith in
    let z : bit_xor r 0 ≡ r = xor_zero_r r in
    ap (λ (x : ℕ). bit_xor x (a * 2 ^ k)) l ∙ ap (bit_xor (0 * 2 ^ k + r)) m ∙ b ∙ omega arith

digit : (x y : ℕ) → x < 2 → y < 2 → bit_xor x y * polynomial ≡ bit_xor (x * polynomial) (y * polynomial)
digit zero y p q = refl
digit (suc zero) zero p q = refl
digit (suc zero) (suc zero) p q = refl
digit (suc zero) (suc (suc y)) p q = absurd (omega arith)
digit (suc (suc x)) y p q = absurd (omega arith)

pub step-xor : (a b : ℕ) → step (bit_xor a b) ≡ bit_xor (step a) (step b)
unfolding step
step-xor a b =
    ap (λ (x : ℕ). bit_xor x (bit_xor a b % 2 * polynomial)) (xor_shr a b 1)
    ∙ ap (bit_xor (bit_xor (a / 2) (b / 2))) (ap (λ (x : ℕ). x * polynomial) (xor_mod a b 1) ∙ digit (a % 2) (b % 2) (omega arith) (omega arith))
    ∙ xor_swap (a / 2) (b / 2) (a % 2 * polynomial) (b % 2 * polynomial)

pub steps-xor : (n a b : ℕ) → steps n (bit_xor a b) ≡ bit_xor (steps n a) (steps n b)
unfolding steps
steps-xor zero a b = refl
steps-xor (suc n) a b = ap (steps n) (step-xor a b) ∙ steps-xor n (step a) (step b)

pub zeros-xor : (n a b : ℕ) → zeros n (bit_xor a b) ≡ bit_xor (zeros n a) (zeros n b)
unfolding zeros
zeros-xor zero a b = refl
zeros-xor (suc n) a b = ap (zeros n) (steps-xor 8 a b) ∙ zeros-xor n (steps 8 a) (steps 8 b)

pub step-even : (a : ℕ) → step (a * 2) ≡ a
unfolding step
step-even a =
    let h : a * 2 / 2 ≡ a = omega arith in
    let l : a * 2 % 2 ≡ 0 = omega arith in
    rw (h, l) (xor_zero_r a)

-- low zeros only shift the register
pub steps-shifted : (n a : ℕ) → steps n (a * 2 ^ n) ≡ a
unfolding steps
steps-shifted zero a = omega arith
steps-shifted (suc n) a =
    let e : a * 2 ^ suc n ≡ a * 2 ^ n * 2 = ap (λ (x : ℕ). a * x) (pow-suc 2 n) ∙ sym (mul_assoc a (2 ^ n) 2) in
    ap (λ (x : ℕ). steps n (step x)) e ∙ ap (steps n) (step-even (a * 2 ^ n)) ∙ steps-shifted n a

pub steps-zero : (n : ℕ) → steps n 0 ≡ 0
unfolding steps step
steps-zero zero = refl
steps-zero (suc n) = steps-zero n

pub zeros-zero : (n : ℕ) → zeros n 0 ≡ 0
unfolding zeros
zeros-zero zero = refl
zeros-zero (suc n) = ap (zeros n) (steps-zero 8) ∙ zeros-zero n

-- the lowest byte separated from the others
pub zeros-peel : (n x : ℕ) → zeros (suc n) x ≡ bit_xor (zeros (suc n) (x % 256)) (zeros n (x / 256))
unfolding zeros
zeros-peel n x =
    let e : x ≡ bit_xor (x % 256) (x / 256 * 256) = (let s : x ≡ x % 256 + x / 256 * 2 ^ 8 = omega arith in s ∙ sym (xor_split 8 (x / 256) (x % 256) (omega arith))) in
    ap (zeros (suc n)) e ∙ zeros-xor (suc n) (x % 256) (x / 256 * 256)
    ∙ ap (λ (y : ℕ). bit_xor (zeros (suc n) (x % 256)) (zeros n y)) (steps-shifted 8 (x / 256))
