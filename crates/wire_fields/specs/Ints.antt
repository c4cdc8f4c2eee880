-- The bytes written for integers of fixed width: little-endian, big-endian, two's complement, and the halves of a 32-bit integer. `Numbers` of wire_buf defines which integer bytes encode.
use Rattle.std.specs.Prelude.{ℕ, ℤ, pos, negsuc, neg_ℤ, ◌^◌, ◌*◌, ◌-◌, ◌/◌, ◌%◌, suc, List, Option, Some, None, nat_lt, int_le, int_lt, if◌then◌else◌, ◌&&◌, ◌==◌, Bool}
use Rattle.byteorder.specs.Endian.{little_number, little_bytes, big_bytes}
use Rattle.wire_buf.specs.Encoding.{IsFixed}

-- the n bytes of v, if it fits
abbrev pub little_encoded : ℕ → ℕ → Option (List ℕ)
little_encoded n v = if nat_lt v (256 ^ n) then Some (little_bytes n v) else None

abbrev pub big_encoded : ℕ → ℕ → Option (List ℕ)
big_encoded n v = if nat_lt v (256 ^ n) then Some (big_bytes n v) else None

-- the number whose n bytes are those of the signed z: z itself, or z plus 256 ^ n if z is negative
abbrev pub residue : ℕ → ℤ → ℕ
residue n (pos k) = k
residue n (negsuc k) = 256 ^ n - suc k

-- whether z fits in n bytes of two's complement
abbrev pub fits_signed : ℕ → ℤ → Bool
fits_signed n z = int_le (neg_ℤ (pos (2 ^ (8 * n - 1)))) z && int_lt z (pos (2 ^ (8 * n - 1)))

-- the n bytes of the signed z, if it fits
abbrev pub signed_little_encoded : ℕ → ℤ → Option (List ℕ)
signed_little_encoded n z = if fits_signed n z then Some (little_bytes n (residue n z)) else None

abbrev pub signed_big_encoded : ℕ → ℤ → Option (List ℕ)
signed_big_encoded n z = if fits_signed n z then Some (big_bytes n (residue n z)) else None

-- the bits of v in n bytes, if it fits
abbrev pub unsigned_bits : ℕ → ℕ → Option ℕ
unsigned_bits n v = if nat_lt v (256 ^ n) then Some v else None

-- the bits of the signed z in n bytes, if it fits
abbrev pub signed_bits : ℕ → ℤ → Option ℕ
signed_bits n z = if fits_signed n z then Some (residue n z) else None

-- the lower and the upper half of a 32-bit integer, with the other half zero
abbrev pub lower_half : ℕ → ℕ
lower_half v = v % 65536

abbrev pub upper_half : ℕ → ℕ
upper_half v = 65536 * (v / 65536)

-- two bytes that encode the upper half of v
abbrev pub IsUpperHalf : ℕ → List ℕ → Type 0
IsUpperHalf = IsFixed (λ b. 65536 * little_number 2 b) 2

-- the two bytes of a number whose lower half is zero
abbrev pub upper_half_encoded : ℕ → Option (List ℕ)
upper_half_encoded v = if (v % 65536 == 0) && nat_lt v (2 ^ 32) then Some (little_bytes 2 (v / 65536)) else None
