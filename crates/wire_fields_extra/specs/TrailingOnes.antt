-- The variable-length unsigned integers of MySQL's serialization library: the number of trailing one bits of the first byte is the number of bytes after it.
use Rattle.std.specs.Prelude.{◌≡◌, ◌≤◌, ◌+◌, ◌*◌, ◌-◌, ◌/◌, ◌%◌, ◌^◌, ℕ, suc, List, ◌∷◌, slice_index, nat_lt, ◌==◌, if◌then◌else◌}
use Rattle.byteorder.specs.Endian.{little_number, little_bytes}
use Rattle.wire_buf.specs.Encoding.{IsFixed}
use Rattle.wire_buf.specs.Numbers.{IsLittle}

-- byte b ends in n one bits, with a zero bit before them
pub record HasTrailingOnes (n b : ℕ) : Type 0 where
  pub ones : b % 2 ^ suc n ≡ 2 ^ n - 1

-- If the first byte has n trailing ones, up to 7, the number is that of n + 1 little-endian bytes, the first included, shifted right by n + 1 bits. After 255 come eight bytes.
pub data IsVarlenUint : ℕ → List ℕ → Type 0 where
  short : {v n : ℕ} {bytes : List ℕ} → n ≤ 7 → HasTrailingOnes n (slice_index bytes 0)
      → IsFixed (λ b. little_number (suc n) b / 2 ^ suc n) (suc n) v bytes → IsVarlenUint v bytes
  long : {v : ℕ} {bytes : List ℕ} → IsLittle 8 v bytes → IsVarlenUint v (255 ∷ bytes)

-- the length of the shortest encoding: one byte for every seven bits, and nine from 57 bits on
unfoldable pub varlen_uint_len : ℕ → ℕ
varlen_uint_len v =
    if nat_lt v (2 ^ 7) then 1
    else if nat_lt v (2 ^ 14) then 2
    else if nat_lt v (2 ^ 21) then 3
    else if nat_lt v (2 ^ 28) then 4
    else if nat_lt v (2 ^ 35) then 5
    else if nat_lt v (2 ^ 42) then 6
    else if nat_lt v (2 ^ 49) then 7
    else if nat_lt v (2 ^ 56) then 8
    else 9

-- the number with its n - 1 trailing ones, as an integer of n bytes
abbrev pub trailing_ones_number : ℕ → ℕ → ℕ
trailing_ones_number n v = v * 2 ^ n + (2 ^ (n - 1) - 1)

-- the shortest encoding
unfoldable pub varlen_uint_encoded : ℕ → List ℕ
varlen_uint_encoded v =
    let n = varlen_uint_len v in
    if n == 9 then 255 ∷ little_bytes 8 v else little_bytes n (trailing_ones_number n v)
