-- Bytes between quotes, as fields of four bytes: the first character, and the hexadecimal digits.
use Rattle.std.specs.Prelude.{◌≡◌, ℕ, ◌+◌, ◌*◌, ◌/◌, ◌%◌, false, List, [], ◌∷◌, length, map, if◌then◌else◌}
use Rattle.std.specs.Fmt.{digit_glyph}
use Rattle.feed_writers.specs.Quoting.{is_plain_byte}

-- the byte, or a backslash
abbrev pub first_of_byte : ℕ → ℕ
first_of_byte b = if is_plain_byte b then b else 92

abbrev pub high_digit : ℕ → ℕ
high_digit b = digit_glyph false (b / 16)

abbrev pub low_digit : ℕ → ℕ
low_digit b = digit_glyph false (b % 16)

-- four bytes for each byte; the last digit is there twice
abbrev pub field_of : ℕ → List ℕ
field_of b = first_of_byte b ∷ high_digit b ∷ low_digit b ∷ low_digit b ∷ []

-- a bit for each byte that needs an escape, the lowest for the first
abbrev pub stops_in : List ℕ → ℕ
stops_in [] = 0
stops_in (b ∷ bytes) = (if is_plain_byte b then 0 else 1) + 2 * stops_in bytes

-- of sixteen bytes: the first characters, the digits, and the bits of those that need an escape
pub record AreParts (bytes first high low : List ℕ) (stops : ℕ) : Type 0 where
  pub sixteen : length bytes ≡ 16
  pub firsts : first ≡ map first_of_byte bytes
  pub highs : high ≡ map high_digit bytes
  pub lows : low ≡ map low_digit bytes
  pub bits : stops ≡ stops_in bytes
