-- The text of the feed: quoted bytes.
use Rattle.std.specs.Prelude.{ℕ, ◌/◌, ◌%◌, Bool, false, ◌&&◌, not, List, [], ◌∷◌, ◌++◌, nat_le, ◌==◌, if◌then◌else◌}
use Rattle.std.specs.List.{flat_map}
use Rattle.std.specs.Fmt.{digit_glyph}

-- 0x20 to 0x7e, except quote and backslash
abbrev pub is_plain_byte : ℕ → Bool
is_plain_byte b = nat_le 32 b && nat_le b 126 && not (b == 39) && not (b == 92)

-- a backslash and the two lower case hexadecimal digits of a byte
abbrev pub escape : ℕ → List ℕ
escape b = 92 ∷ digit_glyph false (b / 16) ∷ digit_glyph false (b % 16) ∷ []

-- a byte between quotes: itself, or its escape
abbrev pub quoted_byte : ℕ → List ℕ
quoted_byte b = if is_plain_byte b then b ∷ [] else escape b

-- bytes in single quotes
unfoldable pub quoted : List ℕ → List ℕ
quoted bytes = 39 ∷ flat_map quoted_byte bytes ++ 39 ∷ []
