-- Bits that are counted a byte at a time.
use Rattle.std.proofs.Common.{◌≡◌, ◌<◌, ◌≤◌, ◌^◌, ◌*◌, ◌+◌, ◌-◌, ◌/◌, ◌%◌, ℕ, zero, suc, Bool, true, false, length, take, get_or, slice_index, arith, ap, sym, refl, ◌∙◌}
use Rattle.std.specs.Prelude.{◌==◌, if◌then◌else◌}
use Rattle.std.specs.Int.Count.{ones}
use Rattle.std.proofs.lemmas.Nat.{pow_pos, shl-shr, shr-shr, mod-pow-add, mod_low, mod_below, div-add-mod', ones-le, ones_cat}
use Rattle.std.proofs.lemmas.List.{get_or-take}
use Rattle.rows_table_map.specs.BitLists.{count_below, bit_of}
use Rattle.rows_table_map.specs.BitCounts.{first_ones}
use Rattle.rows_table_map.specs.declared.bits.Bits.{Bits}

-- ---- the first bits of a byte are those of a part of it

one_bit : (b : ℕ) → b < 2 → ones b ≡ (if b == 1 then 1 else 0)
unfolding ones
one_bit zero h = refl
one_bit (suc zero) h = refl
one_bit (suc (suc b)) h = absurd (omega (arith, h))

low_ones : (k byte : ℕ) → ones (byte % 2 ^ k) ≡ first_ones false byte k
unfolding ones
low_ones zero byte = let e : byte % 1 ≡ 0 = omega arith in ap ones e
low_ones (suc k) byte =
    let low = low_ones k byte in
    let bit = one_bit (byte / 2 ^ k % 2) (mod_below _ 2 (omega arith)) in
    ap (λ j. ones (byte % 2 ^ j)) (omega arith) ∙ ap ones (mod-pow-add byte 1 k) ∙ ones_cat k (byte / 2 ^ k % 2) (byte % 2 ^ k) (mod_below _ _ (pow_pos k)) ∙ omega (arith, low, bit)

high_ones : (k byte : ℕ) → k ≤ 8 → byte < 256 → ones (byte / 2 ^ (8 - k)) ≡ first_ones true byte k
unfolding ones
high_ones zero byte few h = let e : byte / 256 ≡ 0 = omega (arith, h) in ap ones e
high_ones (suc k) byte few h =
    let high = high_ones k byte (omega (arith, few)) h in
    let q = byte / 2 ^ (7 - k) in
    let bit = one_bit (q % 2) (mod_below _ 2 (omega arith)) in
    let up : 7 - k + 1 ≡ 8 - k = omega (arith, few) in
    let above : ones (q / 2) ≡ ones (byte / 2 ^ (8 - k)) = ap ones (shr-shr byte (7 - k) 1) ∙ ap (λ j. ones (byte / 2 ^ j)) up in
    ap (λ j. ones (byte / 2 ^ j)) (omega arith) ∙ ap ones (sym (div-add-mod' q 2)) ∙ ones_cat 1 (q / 2) (q % 2) (mod_below _ 2 (omega arith)) ∙ omega (arith, high, bit, above)

-- what `byte << j` is, for the k bits that stay
shifted : (k j byte : ℕ) → 8 ≡ k + j → byte * 2 ^ j % 256 ≡ byte % 2 ^ k * 2 ^ j + 0
shifted k j byte e =
    let none : byte * 2 ^ j % 2 ^ j ≡ 0 = ap (λ n. n % 2 ^ j) (omega arith) ∙ mod_low byte j 0 (pow_pos j) in
    ap (λ w. byte * 2 ^ j % 2 ^ w) e ∙ mod-pow-add (byte * 2 ^ j) k j ∙ ap (λ q. q % 2 ^ k * 2 ^ j + byte * 2 ^ j % 2 ^ j) (shl-shr byte j) ∙ ap (λ r. byte % 2 ^ k * 2 ^ j + r) none

pub part_ones : (k byte : ℕ) → k ≤ 8 → byte < 256 → (ones (byte * 2 ^ (8 - k) % 256) ≡ first_ones false byte k) × (ones (byte / 2 ^ (8 - k)) ≡ first_ones true byte k)
unfolding ones
part_ones k byte few h =
    let low = low_ones k byte in (
      ap ones (shifted k (8 - k) byte (omega (arith, few))) ∙ ones_cat (8 - k) (byte % 2 ^ k) 0 (pow_pos (8 - k)) ∙ omega (arith, low),
      high_ones k byte few h,
    )

-- ---- one more byte

count_most : (f : ℕ → Bool) (k : ℕ) → count_below f k ≤ k
count_most f zero = omega arith
count_most f (suc k) = let most = count_most f k in either (f k) most
  where
    either : (b : Bool) → count_below f k ≤ k → count_below f k + (if b then 1 else 0) ≤ suc k
    either true most = omega (arith, most)
    either false most = omega (arith, most)

pub first_most : (from_highest : Bool) (byte k : ℕ) → first_ones from_highest byte k ≤ k
first_most true byte k = count_most _ k
first_most false byte k = count_most _ k

count_more : (f : ℕ → Bool) (n k : ℕ) → count_below f (n + k) ≡ count_below f n + count_below (λ i. f (n + i)) k
count_more f n zero = let e : n + 0 ≡ n = omega arith in rw e (omega arith)
count_more f n (suc k) =
    let e : n + suc k ≡ suc (n + k) = omega arith in
    let more = count_more f n k in
    rw e (omega (arith, more))

count_same : (f g : ℕ → Bool) (k : ℕ) → ((i : ℕ) → i < k → f i ≡ g i) → count_below f k ≡ count_below g k
count_same f g zero h = refl
count_same f g (suc k) h =
    ap (λ n. n + (if f k then 1 else 0)) (count_same f g k (λ i below. h i (omega (arith, below)))) ∙ ap (λ (b : Bool). count_below g k + (if b then 1 else 0)) (h k (omega arith))

position : (w i : ℕ) → i < 8 → ((8 * w + i) / 8 ≡ w) × ((8 * w + i) % 8 ≡ i)
position w i h = (omega (arith, h), omega (arith, h))

-- the first bits of the byte at w are counted after those of the bytes before it
pub byte_more : (b : Bits) (w k : ℕ) → k ≤ 8 → count_below (bit_of b) (8 * w + k) ≡ count_below (bit_of b) (8 * w) + first_ones b.from_highest (slice_index b.bytes.now w) k
byte_more b w k few = count_more (bit_of b) (8 * w) k ∙ ap (λ n. count_below (bit_of b) (8 * w) + n) (either b.from_highest refl)
  where
    either : (from_highest : Bool) → b.from_highest ≡ from_highest → count_below (λ i. bit_of b (8 * w + i)) k ≡ first_ones from_highest (slice_index b.bytes.now w) k
    either true is = count_same _ _ k (λ i h. let p = position w i (omega (arith, h, few)) in rw (is, p.0, p.1) refl)
    either false is = count_same _ _ k (λ i h. let p = position w i (omega (arith, h, few)) in rw (is, p.0, p.1) refl)

-- all bits of a byte
pub byte_ones : (from_highest : Bool) (byte : ℕ) → byte < 256 → ones byte ≡ first_ones from_highest byte 8
byte_ones true byte h = let e : byte / 2 ^ (8 - 8) ≡ byte = omega arith in ap ones (sym e) ∙ (part_ones 8 byte (omega arith) h).1
byte_ones false byte h = let e : byte * 2 ^ (8 - 8) % 256 ≡ byte = omega (arith, h) in ap ones (sym e) ∙ (part_ones 8 byte (omega arith) h).0

-- a whole byte is counted after the bytes before it
pub byte_counted : (b : Bits) (w n count byte : ℕ) → w < n → n ≤ length b.bytes.now → byte ≡ get_or (take n b.bytes.now) w 0 → byte < 256 → count ≡ count_below (bit_of b) (8 * w) → count ≤ 8 * w
    → (count + ones byte ≡ count_below (bit_of b) (8 * (w + 1))) × (count + ones byte ≤ 8 * (w + 1))
byte_counted b w n count byte below room is small counted few =
    let this : byte ≡ slice_index b.bytes.now w = is ∙ get_or-take n b.bytes.now w 0 below in
    let next : 8 * w + 8 ≡ 8 * (w + 1) = omega arith in
    let more = byte_more b w 8 (omega arith) in
    let bits = byte_ones b.from_highest byte small ∙ ap (λ v. first_ones b.from_highest v 8) this in
    let most = ones-le 8 byte small in
    (ap (λ k. k + ones byte) counted ∙ ap (λ k. count_below (bit_of b) (8 * w) + k) bits ∙ sym more ∙ ap (count_below (bit_of b)) next, omega (arith, few, most))
