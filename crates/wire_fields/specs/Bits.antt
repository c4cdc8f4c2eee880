-- Lemmas: the bits of a number in n bytes determine it. They are in specs because the laws of the trait `Number` may cite definitions only.
use Rattle.std.proofs.Common.{◌≡◌, ◌≤◌, ◌<◌, ◌-◌, ◌*◌, ◌^◌, ◌%◌, ◌∙◌, ℕ, suc, arith, refl, ap, Option, Some, None, inl, inr}
use Rattle.std.specs.Prelude.{ℤ, pos, negsuc, neg_ℤ, ◌+ℤ◌, ◌⊎◌, Bool, true, false, if◌then◌else◌, option_map, ◌≤ℤ◌, ◌<ℤ◌}
use Rattle.std.proofs.Math.Nat.{pow-le-pow_right, pow-succ'}
use Rattle.std.proofs.lemmas.Bool.{le-ltb, lt-ltb}
use Rattle.std.proofs.lemmas.Bool.Decides.{leb_tells}
use Rattle.std.proofs.lemmas.Int.{ints}
use Rattle.byteorder.specs.Endian.{twos_complement}
use Rattle.byteorder.proofs.Bytes.{pow256, sign_bit128}
use Rattle.wire_fields.specs.Ints.{unsigned_bits, signed_bits, residue, fits_signed}

some_is : {A : Type 0} (a b : A) → ◌≡◌ {A = Option A} (Some a) (Some b) → a ≡ b
some_is a b e = cc

pub unsigned_bits-some : (n v : ℕ) → v < 256 ^ n → unsigned_bits n v ≡ Some v
unsigned_bits-some n v h = elim (leb_tells (suc v) (256 ^ n)) [
  | inl t ↦ rw t.0 refl
  | inr t ↦ absurd (omega (arith, t.1))
]

pub unsigned_bits-none : (n v : ℕ) → 256 ^ n ≤ v → unsigned_bits n v ≡ None
unsigned_bits-none n v h = rw (le-ltb v (256 ^ n) h) refl

pub unsigned_bits-suffix : (n b v : ℕ) → unsigned_bits n v ≡ Some b → (b < 256 ^ n) × (v ≡ b)
unsigned_bits-suffix n b v e = elim (leb_tells (suc v) (256 ^ n)) [
  | inl t ↦
      let f : ◌≡◌ {A = Option ℕ} (Some v) (Some b) = rw t.0 at e in
      let same = some_is v b f in
      let small = t.1 in
      (omega arith, same)
  | inr t ↦
      let f : ◌≡◌ {A = Option ℕ} None (Some b) = rw t.0 at e in
      absurd cc
]

-- n bytes have twice as many values as there are below the sign bit
pub twice : (n : ℕ) → 1 ≤ n → 256 ^ n ≡ 2 * 2 ^ (8 * n - 1)
twice n low =
    let whole : 8 * n ≡ suc (8 * n - 1) = omega arith in
    pow256 n ∙ ap (λ (e : ℕ). 2 ^ e) whole ∙ pow-succ' 2 (8 * n - 1)

-- the sign bit of n bytes
pub half_bit : (n : ℕ) → 1 ≤ n → n < 16 → (1 * 2 ^ (8 * n - 1) % 2 ^ 128 ≡ 2 ^ (8 * n - 1)) × (2 ^ (8 * n - 1) ≤ 2 ^ 119) × (256 ^ n ≡ 2 * 2 ^ (8 * n - 1))
half_bit n low high =
    let s = sign_bit128 n low (omega arith) in
    let top : 2 ^ (8 * n - 1) ≤ 2 ^ 119 = pow-le-pow_right {n = 2} (omega arith) {i = 8 * n - 1} {j = 119} (omega arith) in
    (s.0, top, s.2)

pub signed_bits-some : (n b : ℕ) (v : ℤ) → neg_ℤ (pos (2 ^ (8 * n - 1))) ≤ℤ v → v <ℤ pos (2 ^ (8 * n - 1)) → b ≡ residue n v → signed_bits n v ≡ Some b
signed_bits-some n b v low high e =
    let t : fits_signed n v ≡ true = grind (arith, ints) in
    rw (t, e) refl

pub signed_bits-none : (n : ℕ) (v : ℤ) → (v <ℤ neg_ℤ (pos (2 ^ (8 * n - 1)))) ⊎ (pos (2 ^ (8 * n - 1)) ≤ℤ v) → signed_bits n v ≡ None
signed_bits-none n v (inl h) = let t : fits_signed n v ≡ false = grind (arith, ints) in rw t refl
signed_bits-none n v (inr h) = let t : fits_signed n v ≡ false = grind (arith, ints) in rw t refl

pub residue-below : (n b : ℕ) (v : ℤ) → v <ℤ pos 0 → pos b ≡ v +ℤ pos (256 ^ n) → b ≡ residue n v
residue-below n b (pos k) h e = absurd (omega (arith, ints))
residue-below n b (negsuc k) h e = omega (arith, ints)

bits_tell : (t : Bool) (x y : ℕ) → ◌≡◌ {A = Option ℕ} (if t then Some x else None) (Some y) → (t ≡ true) × (x ≡ y)
bits_tell true x y e = (refl, some_is x y e)
bits_tell false x y e = absurd cc

pub signed_bits-suffix : (n b : ℕ) (v : ℤ) → 1 ≤ n → signed_bits n v ≡ Some b → (b < 256 ^ n) × (v ≡ twos_complement n b)
signed_bits-suffix n b (pos k) low e =
    let t = bits_tell _ _ _ e in
    let fits : fits_signed n (pos k) ≡ true = t.0 in
    let whole = twice n low in
    let same = t.1 in
    let small : k < 2 ^ (8 * n - 1) = grind (arith, ints) in
    (omega arith, rw (← same, lt-ltb k (2 ^ (8 * n - 1)) small) refl)
signed_bits-suffix n b (negsuc k) low e =
    let t = bits_tell _ _ _ e in
    let fits : fits_signed n (negsuc k) ≡ true = t.0 in
    let whole = twice n low in
    let same = t.1 in
    let small : suc k ≤ 2 ^ (8 * n - 1) = grind (arith, ints) in
    let above : 2 ^ (8 * n - 1) ≤ b = omega arith in
    (omega arith, rw (le-ltb b (2 ^ (8 * n - 1)) above, ← pow256 n) (omega (arith, ints)))

-- a number of n bytes fits in more bytes
pub fits_wider : (n m b : ℕ) → n ≤ m → b < 256 ^ n → b < 256 ^ m
fits_wider n m b more h =
    let wider : 256 ^ n ≤ 256 ^ m = pow-le-pow_right {n = 256} (omega arith) {i = n} {j = m} more in
    omega arith

pub signed_wider : (n m b : ℕ) → 1 ≤ n → n ≤ m → b < 256 ^ n
    → (neg_ℤ (pos (2 ^ (8 * m - 1))) ≤ℤ twos_complement n b) × (twos_complement n b <ℤ pos (2 ^ (8 * m - 1)))
signed_wider n m b low more h =
    let wider : 2 ^ (8 * n - 1) ≤ 2 ^ (8 * m - 1) = pow-le-pow_right {n = 2} (omega arith) {i = 8 * n - 1} {j = 8 * m - 1} (omega arith) in
    let whole = twice n low in
    elim (leb_tells (suc b) (2 ^ (8 * n - 1))) [
      | inl t ↦ let small = t.1 in rw t.0 (omega (arith, ints), omega (arith, ints))
      | inr t ↦ let large = t.1 in rw (t.0, ← pow256 n) (omega (arith, ints), omega (arith, ints))
    ]

-- `option_map` on a conditional result
pub map_if : {A B : Type 0} (f : A → B) (t : Bool) (x : A) → option_map f (if t then Some x else None) ≡ (if t then Some (f x) else None)
map_if f true x = refl
map_if f false x = refl
