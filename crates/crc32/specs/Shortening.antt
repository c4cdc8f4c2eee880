-- A long message is shortened: the generator divides x^2400 + x^1240 + x^936 + x^712 + 1, so the register is the same if a byte of the
-- message is removed and added to the bytes 145, 183, 211 and 300 offsets after it.
use Rattle.std.specs.Prelude.{ℕ, ◌+◌, ◌<◌, ◌≡◌, List, bit_xor, length, get_or}
use Rattle.byteorder.specs.Endian.{little_from}

-- the number in n bytes from offset i, little-endian
unfoldable pub number_at : ℕ → ℕ → List ℕ → ℕ
number_at i n bytes = little_from i n bytes

abbrev pub AreByteValues : List ℕ → Type 0
AreByteValues xs = (i : ℕ) → get_or xs i 0 < 256

-- a vector of sixteen bytes, which are v as one number
abbrev pub AreLanes : List ℕ → ℕ → Type 0
AreLanes xs v = (length xs ≡ 16) × AreByteValues xs × (number_at 0 16 xs ≡ v)

abbrev pub xor_of_four : ℕ → ℕ → ℕ → ℕ → ℕ
xor_of_four a b c d = bit_xor (bit_xor (bit_xor a b) c) d

-- the sum that removed bytes add to n bytes, as one number; the 304 removed bytes before the n bytes are at offset i
unfoldable pub added : ℕ → ℕ → List ℕ → ℕ
added i n kept = xor_of_four (number_at (i + 4) n kept) (number_at (i + 93) n kept) (number_at (i + 121) n kept) (number_at (i + 159) n kept)

-- the sum that the 304 removed bytes from offset i on add to the message after them
unfoldable pub pending : ℕ → List ℕ → ℕ
pending i kept = xor_of_four (number_at (i + 4) 300 kept) (number_at (i + 93) 211 kept) (number_at (i + 121) 183 kept) (number_at (i + 159) 145 kept)
