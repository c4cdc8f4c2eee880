-- The register as the remainder of a division: each step subtracts the generator, or nothing, from the rest.
use Rattle.std.proofs.Common.{◌≡◌, ℕ, zero, suc, ◌+◌, ◌*◌, ◌/◌, ◌%◌, ◌^◌, ◌<◌, ◌==◌, Bool, true, false, cond, ◌↔◌, subst, List, [], ◌∷◌, bit_xor, length, get_or, refl, sym, ap, ◌∙◌, arith}
use Rattle.std.proofs.Math.Nat.{pow-suc, mul_assoc}
use lib.Bits.{xor_assoc, xor_comm, xor_self, xor_zero_r, xor_block, xor_lt}
use Rattle.crc32.specs.Checksums.{polynomial, initial_register, after_bytes}
use Rattle.crc32.specs.Division.{generator, message_number, polynomial_product, IsRemainder}
use Rattle.crc32.proofs.ZerosLemmas.{step, steps, zeros, step-even}
use Rattle.crc32.proofs.MessageLemmas.{after_all, after_first, after_nothing}

xor_double : (a b : ℕ) → bit_xor (a * 2) (b * 2) ≡ bit_xor a b * 2
xor_double a b =
    let e : bit_xor (a * 2 + 0) (b * 2 + 0) ≡ bit_xor a b * 2 + 0 = xor_block 1 a b 0 0 (omega arith) (omega arith) in
    let p : a * 2 ≡ a * 2 + 0 = omega arith in
    let q : b * 2 ≡ b * 2 + 0 = omega arith in
    ap (λ (y : ℕ). bit_xor y (b * 2)) p ∙ ap (bit_xor (a * 2 + 0)) q ∙ e ∙ omega arith

-- x with its lowest digit d separated
digits_out : (h d : ℕ) → d < 2 → bit_xor (h * 2 + d) (cond (d == 1) generator 0) ≡ bit_xor h (d * polynomial) * 2
digits_out h zero k = xor_zero_r (h * 2 + 0) ∙ (let e : bit_xor h 0 ≡ h = xor_zero_r h in omega arith)
digits_out h (suc zero) k = xor_block 1 h polynomial 1 1 (omega arith) (omega arith) ∙ omega arith
digits_out h (suc (suc d)) k = absurd (omega arith)

taken : (x : ℕ) → bit_xor x (cond (x % 2 == 1) generator 0) ≡ step x * 2
unfolding step
taken x =
    let e : x ≡ x / 2 * 2 + x % 2 = omega arith in
    ap (λ (y : ℕ). bit_xor y (cond (x % 2 == 1) generator 0)) e ∙ digits_out (x / 2) (x % 2) (omega arith)

steps_divide : (n x : ℕ) → (q : List Bool) × (bit_xor x (polynomial_product q generator) ≡ steps n x * 2 ^ n)
unfolding steps polynomial_product
steps_divide zero x = ([], xor_zero_r x ∙ omega arith)
steps_divide (suc n) x =
    let rest : (q : List Bool) × (bit_xor (step x) (polynomial_product q generator) ≡ steps n (step x) * 2 ^ n) = steps_divide n (step x) in
    let q : List Bool = rest.0 in
    let d : ℕ = cond (x % 2 == 1) generator 0 in (
      (x % 2 == 1) ∷ q,
      sym (xor_assoc x d (polynomial_product q generator * 2)) ∙ ap (λ (y : ℕ). bit_xor y (polynomial_product q generator * 2)) (taken x)
          ∙ xor_double (step x) (polynomial_product q generator) ∙ ap (λ (y : ℕ). y * 2) rest.1
          ∙ mul_assoc (steps n (step x)) (2 ^ n) 2 ∙ ap (λ (y : ℕ). steps n (step x) * y) (sym (pow-suc 2 n)),
    )

zeros_steps : (n x : ℕ) → zeros n x ≡ steps (8 * n) x
unfolding zeros steps
zeros_steps zero x = refl
zeros_steps (suc n) x =
    let e : suc (suc (suc (suc (suc (suc (suc (suc (8 * n)))))))) ≡ 8 * suc n = omega arith in
    zeros_steps n (steps 8 x) ∙ ap (λ (k : ℕ). steps k x) e

step-lt : (x : ℕ) → x < 2 ^ 32 → step x < 2 ^ 32
unfolding step
step-lt x h = xor_lt 32 (x / 2) (x % 2 * polynomial) (omega arith) (omega arith)

steps-lt : (n x : ℕ) → x < 2 ^ 32 → steps n x < 2 ^ 32
unfolding steps
steps-lt zero x h = h
steps-lt (suc n) x h = steps-lt n (step x) (step-lt x h)

after_bytes-lt : (bs : List ℕ) (c : ℕ) → c < 2 ^ 32 → ((i : ℕ) → get_or bs i 0 < 256) → after_bytes c bs < 2 ^ 32
unfolding zeros
after_bytes-lt [] c h k = let e : after_bytes c [] ≡ c = after_nothing c in omega arith
after_bytes-lt (b ∷ bs) c h k =
    let small : b < 256 = k 0 in
    let n : ℕ = steps 8 (bit_xor c b) in
    let e : after_bytes c (b ∷ bs) ≡ after_bytes n bs = after_first c b bs small in
    let l : after_bytes n bs < 2 ^ 32 = after_bytes-lt bs n (steps-lt 8 (bit_xor c b) (xor_lt 32 c b h (omega arith))) (λ i. k (suc i)) in
    omega arith

-- the register is a remainder
register_is : (bytes : List ℕ) → ((i : ℕ) → get_or bytes i 0 < 256) → IsRemainder bytes (after_bytes initial_register bytes)
register_is bytes h =
    let n : ℕ = length bytes in
    let x : ℕ = bit_xor initial_register (message_number bytes) in
    let d : (q : List Bool) × (bit_xor x (polynomial_product q generator) ≡ steps (8 * n) x * 2 ^ (8 * n)) = steps_divide (8 * n) x in
    (after_bytes-lt bytes initial_register (omega arith) h, (d.0, d.1 ∙ ap (λ (y : ℕ). y * 2 ^ (8 * n)) (sym (after_all bytes initial_register h ∙ zeros_steps n x))))

-- ---- no other number is a remainder

-- the same number added twice
twice : (a b : ℕ) → bit_xor a (bit_xor a b) ≡ b
twice a b = sym (xor_assoc a a b) ∙ ap (λ (y : ℕ). bit_xor y b) (xor_self a) ∙ xor_comm 0 b ∙ xor_zero_r b

doubled : (r n : ℕ) → r * 2 ^ suc n ≡ r * 2 ^ n * 2
doubled r n = ap (λ (y : ℕ). r * y) (pow-suc 2 n) ∙ sym (mul_assoc r (2 ^ n) 2)

odd : (m t r : ℕ) → bit_xor (m * 2 + 1) (t * 2) ≡ r * 2 → ⊥
odd m t r e =
    let f : bit_xor (m * 2 + 1) (t * 2 + 0) ≡ bit_xor m t * 2 + 1 = xor_block 1 m t 1 0 (omega arith) (omega arith) in
    let g : bit_xor (m * 2 + 1) (t * 2) ≡ bit_xor (m * 2 + 1) (t * 2 + 0) = ap (bit_xor (m * 2 + 1)) (omega arith) in
    omega arith

step_is : (x t : ℕ) → bit_xor (step x) t ≡ bit_xor (bit_xor (x / 2) (x % 2 * polynomial)) t
unfolding step
step_is x t = refl

-- a multiple of the generator below x^32 is zero
polynomial_product-small : (q : List Bool) → polynomial_product q generator < 2 ^ 32 → polynomial_product q generator ≡ 0
unfolding polynomial_product
polynomial_product-small [] h = refl
polynomial_product-small (false ∷ q) h =
    let t : ℕ = polynomial_product q generator in
    let e : bit_xor 0 (t * 2) ≡ t * 2 = xor_comm 0 (t * 2) ∙ xor_zero_r (t * 2) in
    let z : t ≡ 0 = polynomial_product-small q (omega arith) in
    omega arith
polynomial_product-small (true ∷ q) h =
    let t : ℕ = polynomial_product q generator in
    let high : ℕ = bit_xor polynomial t in
    let e : bit_xor generator (t * 2 + 0) ≡ high * 2 + 1 = xor_block 1 polynomial t 1 0 (omega arith) (omega arith) in
    let f : bit_xor generator (t * 2) ≡ bit_xor generator (t * 2 + 0) = ap (bit_xor generator) (omega arith) in
    let back : bit_xor polynomial high ≡ t = twice polynomial t in
    let low : bit_xor polynomial high < 2 ^ 32 = xor_lt 32 polynomial high (omega arith) (omega arith) in
    let z : t ≡ 0 = polynomial_product-small q (omega arith) in
    let p : high ≡ polynomial = ap (bit_xor polynomial) z ∙ xor_zero_r polynomial in
    absurd (omega arith)

-- the rest of an even number, with its lowest digit separated
half_of : (h d t r : ℕ) (b : Bool) → d < 2 → bit_xor (bit_xor (h * 2 + d) (cond b generator 0)) (t * 2) ≡ r * 2
    → bit_xor (bit_xor h (d * polynomial)) t ≡ r
half_of h zero t r false k e =
    let f : bit_xor (h * 2 + 0) (t * 2) ≡ r * 2 = ap (λ (y : ℕ). bit_xor y (t * 2)) (sym (xor_zero_r (h * 2 + 0))) ∙ e in
    let g : bit_xor (h * 2) (t * 2) ≡ bit_xor (h * 2 + 0) (t * 2) = ap (λ (y : ℕ). bit_xor y (t * 2)) (omega arith) in
    let m : bit_xor (h * 2) (t * 2) ≡ bit_xor h t * 2 = xor_double h t in
    let n : bit_xor (bit_xor h 0) t ≡ bit_xor h t = ap (λ (y : ℕ). bit_xor y t) (xor_zero_r h) in
    omega arith
half_of h zero t r true k e =
    let f : bit_xor (h * 2 + 0) generator ≡ bit_xor h polynomial * 2 + 1 = xor_block 1 h polynomial 0 1 (omega arith) (omega arith) in
    absurd (odd (bit_xor h polynomial) t r (ap (λ (y : ℕ). bit_xor y (t * 2)) (sym f) ∙ e))
half_of h (suc zero) t r false k e =
    absurd (odd h t r (ap (λ (y : ℕ). bit_xor y (t * 2)) (sym (xor_zero_r (h * 2 + 1))) ∙ e))
half_of h (suc zero) t r true k e =
    let m : ℕ = bit_xor h polynomial in
    let f : bit_xor (h * 2 + 1) generator ≡ m * 2 + 0 = xor_block 1 h polynomial 1 1 (omega arith) (omega arith) in
    let g : bit_xor (m * 2) (t * 2) ≡ r * 2 = ap (λ (y : ℕ). bit_xor y (t * 2)) (sym (f ∙ omega arith)) ∙ e in
    let n : bit_xor (m * 2) (t * 2) ≡ bit_xor m t * 2 = xor_double m t in
    omega arith
half_of h (suc (suc d)) t r b k e = absurd (omega arith)

only_steps : (n x r : ℕ) (q : List Bool) → steps n x < 2 ^ 32 → r < 2 ^ 32 → bit_xor x (polynomial_product q generator) ≡ r * 2 ^ n → r ≡ steps n x
unfolding steps polynomial_product
only_steps zero x r q h k e =
    let t : ℕ = polynomial_product q generator in
    let f : bit_xor x t ≡ r = e ∙ omega arith in
    let back : bit_xor x (bit_xor x t) ≡ t = twice x t in
    let low : bit_xor x (bit_xor x t) < 2 ^ 32 = xor_lt 32 x (bit_xor x t) h (omega arith) in
    let z : t ≡ 0 = polynomial_product-small q (omega arith) in
    sym f ∙ ap (bit_xor x) z ∙ xor_zero_r x
only_steps (suc n) x r [] h k e =
    let f : x ≡ r * 2 ^ n * 2 = sym (xor_zero_r x) ∙ e ∙ doubled r n in
    let s : step x ≡ r * 2 ^ n = ap step f ∙ step-even (r * 2 ^ n) in
    only_steps n (step x) r [] h k (xor_zero_r (step x) ∙ s)
only_steps (suc n) x r (b ∷ q) h k e =
    let t : ℕ = polynomial_product q generator in
    let d : ℕ = cond b generator 0 in
    let parts : x ≡ x / 2 * 2 + x % 2 = omega arith in
    let f : bit_xor (bit_xor (x / 2 * 2 + x % 2) d) (t * 2) ≡ r * 2 ^ n * 2 =
    ap (λ (y : ℕ). bit_xor (bit_xor y d) (t * 2)) (sym parts) ∙ xor_assoc x d (t * 2) ∙ e ∙ doubled r n in
    only_steps n (step x) r q h k (step_is x t ∙ half_of (x / 2) (x % 2) t (r * 2 ^ n) b (omega arith) f)

only_register : (bytes : List ℕ) (remainder : ℕ) → ((i : ℕ) → get_or bytes i 0 < 256) → IsRemainder bytes remainder → remainder ≡ after_bytes initial_register bytes
only_register bytes remainder h is =
    let n : ℕ = length bytes in
    let x : ℕ = bit_xor initial_register (message_number bytes) in
    let same : after_bytes initial_register bytes ≡ steps (8 * n) x = after_all bytes initial_register h ∙ zeros_steps n x in
    let low : after_bytes initial_register bytes < 2 ^ 32 = after_bytes-lt bytes initial_register (omega arith) h in
    only_steps (8 * n) x remainder is.1.0 (omega (arith, same)) is.0 is.1.1 ∙ sym same

pub remainder_is_register : (bytes : List ℕ) (remainder : ℕ) → ((i : ℕ) → get_or bytes i 0 < 256) → IsRemainder bytes remainder ↔ (remainder ≡ after_bytes initial_register bytes)
remainder_is_register bytes remainder h =
    let P : ℕ → Type 0 = λ r. IsRemainder bytes r in
    (only_register bytes remainder h, λ e. subst P (sym e) (register_is bytes h))
