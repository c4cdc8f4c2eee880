-- Names, strings and bytes in SQL (MySQL Reference Manual, "Schema Object Names", "String Literals", "Hexadecimal Literals").
use Rattle.std.specs.Prelude.{ℕ, ◌-◌, ◌*◌, map, ◌==◌, Bool, false, not, ◌&&◌, List, [], ◌∷◌, ◌++◌, length, nat_le, if◌then◌else◌, codes}
use Rattle.std.specs.List.{flat_map, list_all, range_with_len}
use Rattle.hex.specs.Hex.{encode_lower}

-- a byte between quotes: a quote is written twice
abbrev pub doubled : ℕ → ℕ → List ℕ
doubled quote b = if b == quote then quote ∷ quote ∷ [] else b ∷ []

-- bytes between quotes
abbrev pub between : ℕ → List ℕ → List ℕ
between quote bytes = quote ∷ flat_map (doubled quote) bytes ++ quote ∷ []

-- a name in backticks, and a string in single quotes
abbrev pub name_text : List ℕ → List ℕ
name_text bytes = between 96 bytes

abbrev pub string_text : List ℕ → List ℕ
string_text bytes = between 39 bytes

-- whether a byte is itself in a string, whatever `sql_mode` is: it is no control character, and no backslash
abbrev pub is_plain : ℕ → Bool
is_plain b = nat_le 32 b && not (b == 127) && not (b == 92)

-- so many zeros
abbrev pub zeros : ℕ → List ℕ
zeros count = map (λ i. 48) (range_with_len 0 count)

-- bytes in hexadecimal, with zeros after them up to a length
abbrev pub hexadecimal : ℕ → List ℕ → List ℕ
hexadecimal padded_len bytes = codes "X'" ++ (encode_lower bytes ++ (zeros (2 * (padded_len - length bytes)) ++ 39 ∷ []))

-- a text in UTF-8 with its character set
abbrev pub utf8_text : List ℕ → List ℕ
utf8_text text = codes "_utf8mb4" ++ (if list_all is_plain text then string_text text else 32 ∷ hexadecimal 0 text)

-- whether a text begins with a byte
abbrev pub begins_with : ℕ → List ℕ → Bool
begins_with b [] = false
begins_with b (x ∷ xs) = x == b
