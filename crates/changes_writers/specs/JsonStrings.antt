-- Strings of JSON (RFC 8259, section 7).
use Rattle.std.specs.Prelude.{ℕ, ◌/◌, ◌%◌, Bool, false, ◌&&◌, ◌||◌, not, List, [], ◌∷◌, ◌++◌, nat_le, ◌==◌, if◌then◌else◌}
use Rattle.std.specs.List.{flat_map}
use Rattle.std.specs.Fmt.{digit_glyph}

-- `unescaped` in the RFC: from the space on, except quote and backslash; also the bytes of UTF-8 that aren't ASCII
abbrev pub is_unescaped : ℕ → Bool
is_unescaped b = nat_le 32 b && not (b == 34) && not (b == 92)

-- after the backslash: quote and backslash themselves, n, r and t for line feed, carriage return and tab, u for other bytes
abbrev pub escape_letter : ℕ → ℕ
escape_letter b = if b == 34 || b == 92 then b else if b == 10 then 110 else if b == 13 then 114 else if b == 9 then 116 else 117

-- after u: the code of a control character in four lower case hexadecimal digits
abbrev pub code_digits : ℕ → List ℕ
code_digits b = 48 ∷ 48 ∷ digit_glyph false (b / 16) ∷ digit_glyph false (b % 16) ∷ []

-- `\"`, `\\`, `\n`, `\r`, `\t`, and `\u00` with two digits
abbrev pub json_escape : ℕ → List ℕ
json_escape b = 92 ∷ escape_letter b ∷ (if escape_letter b == 117 then code_digits b else [])

-- a byte of a string: itself, or its escape
abbrev pub json_byte : ℕ → List ℕ
json_byte b = if is_unescaped b then b ∷ [] else json_escape b

-- bytes in quotes
unfoldable pub json_string : List ℕ → List ℕ
json_string bytes = 34 ∷ flat_map json_byte bytes ++ 34 ∷ []
