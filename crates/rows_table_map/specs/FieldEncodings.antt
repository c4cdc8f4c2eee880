-- The fields of the optional metadata as values (MySQL Internals: Table_map_event): the encoding of a default charset, and the bytes that are written for each type.
use Rattle.std.specs.Prelude.{ℕ, ◌++◌, List, [], ◌∷◌, length, Option, Some}
use Rattle.wire_buf.specs.Encoding.{Encoding, Both}
use Rattle.wire_buf.specs.Numbers.{lenenc_encoded}
use Rattle.wire_buf.specs.Writing.{both_encoded}
use Rattle.wire_fields.specs.Strings.{lenenc_string_encoded}
use Rattle.wire_fields.specs.ByteStrings.{IsAll}
use Rattle.rows_table_map.specs.Entries.{NumberEncoding}

-- a charset, and the bytes of the pairs up to the end
abbrev pub DefaultEncoding : Encoding (ℕ × List ℕ)
DefaultEncoding = Both NumberEncoding IsAll

-- the bytes that are written for a list, which is its bytes; for an integer; for a string
abbrev pub all_encoded : List ℕ → Option (List ℕ)
all_encoded bytes = Some bytes

abbrev pub number_encoded : ℕ → Option (List ℕ)
number_encoded n = Some (lenenc_encoded n)

abbrev pub string_encoded : List ℕ → Option (List ℕ)
string_encoded s = Some (lenenc_string_encoded s)

-- the same for two integers; for a charset and the pairs
abbrev pub pair_encoded : ℕ × ℕ → Option (List ℕ)
pair_encoded = both_encoded number_encoded number_encoded

abbrev pub default_encoded : ℕ × List ℕ → Option (List ℕ)
default_encoded = both_encoded number_encoded all_encoded

-- the members of a column: their count, and the strings in order
abbrev pub joined_strings : List (List ℕ) → List ℕ
joined_strings [] = []
joined_strings (v ∷ vs) = lenenc_string_encoded v ++ joined_strings vs

abbrev pub members_encoded : List (List ℕ) → Option (List ℕ)
members_encoded vs = Some (lenenc_encoded (length vs) ++ joined_strings vs)
