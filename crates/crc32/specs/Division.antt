-- The checksum of an event as the remainder of a division, as the standard defines it. A number represents a polynomial over GF(2) whose
-- coefficients are its binary digits, the highest power in the lowest digit: exclusive-or adds two polynomials, and doubling a
-- number moves each digit one power lower.
use Rattle.std.specs.Prelude.{ℕ, ◌+◌, ◌*◌, ◌^◌, ◌<◌, ◌≡◌, Bool, cond, List, [], ◌∷◌, bit_xor, length}
use Rattle.crc32.specs.Checksums.{polynomial, initial_register}

-- the polynomial with x^32
abbrev pub generator : ℕ
generator = 1 + polynomial * 2

-- the message: its bytes as one number, the first of them lowest
unfoldable pub message_number : List ℕ → ℕ
message_number [] = 0
message_number (byte ∷ bytes) = byte + message_number bytes * 256

-- the product of two polynomials, the first by its coefficients
unfoldable pub polynomial_product : List Bool → ℕ → ℕ
polynomial_product [] p = 0
polynomial_product (b ∷ q) p = bit_xor (cond b p 0) (polynomial_product q p * 2)

-- The dividend is the message followed by 32 zeros, with its first 32 bits inverted. For some quotient, the dividend less the product
-- has no digits but the last 32, after as many as the message has: these are the remainder.
abbrev pub IsRemainder : List ℕ → ℕ → Type 0
IsRemainder bytes remainder =
    (remainder < 2 ^ 32)
    × ((quotient : List Bool) × (bit_xor (bit_xor initial_register (message_number bytes)) (polynomial_product quotient generator) ≡ remainder * 2 ^ (8 * length bytes)))
