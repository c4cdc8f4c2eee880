-- The field SIGNEDNESS in table maps of MariaDB's servers, and the same as MySQL's servers write it: MariaDB's have a sign for each YEAR column too, and write it as the first field (MySQL's source: Table_map_event; MariaDB's source: Table_map_log_event::init_metadata_fields).
use Rattle.std.specs.Prelude.{ℕ, ◌+◌, ◌/◌, ◌==◌, ◌&&◌, ◌||◌, not, Bool, List, [], ◌∷◌, ◌++◌, length, take, drop, map, nat_le, slice_index, count_by, Option, Some, None, if◌then◌else◌}
use Rattle.std.specs.List.{filter, list_any, zip}
use Rattle.std.specs.Option.{option_and_then}
use Rattle.wire_lenenc.specs.LenencSplit.{split_lenenc}
use Rattle.rows_table_map.specs.BitLists.{highest_bit}
use Rattle.rows_table_map.specs.MetadataFields.{bits_from, is_numeric_number}
use Rattle.table_schemas.specs.WrittenFields.{field_or_none, packed}

-- ---- signs

-- the type of YEAR columns
abbrev pub is_year : ℕ → Bool
is_year number = number == 13

-- the types whose columns have a sign in MariaDB's table maps: those of numbers, and YEAR
abbrev pub has_sign : ℕ → Bool
has_sign number = is_numeric_number number || is_year number

-- how many bytes the signs of columns of these types take
abbrev pub signs_len : List ℕ → ℕ
signs_len types = (count_by has_sign types + 7) / 8

-- the signs that these bytes have, in the order of the columns: of each whether it is unsigned, from the highest bit of the first byte on
abbrev pub signs_in : List ℕ → List ℕ → List Bool
signs_in types value = bits_from (highest_bit value) 0 (count_by has_sign types)

-- those of the columns that aren't YEAR
abbrev pub numeric_signs : List ℕ → List ℕ → List Bool
numeric_signs types value = map (λ s. s.1) (filter (λ s. not (is_year s.0)) (zip (filter has_sign types) (signs_in types value)))

-- ---- where they are in the body of a table map

-- the first bytes, this many, and those after them
abbrev pub first_bytes : ℕ → List ℕ → Option (List ℕ × List ℕ)
first_bytes n bytes = if nat_le n (length bytes) then Some (take n bytes, drop n bytes) else None

-- the same with their number before them, as a length-encoded integer
abbrev pub counted : List ℕ → Option (List ℕ × List ℕ)
counted bytes = option_and_then (λ n. first_bytes n.0 n.1) (split_lenenc bytes)

-- the bytes after a name, which has its length in a byte before it, and a byte without meaning after it
abbrev pub after_name : List ℕ → List ℕ
after_name bytes = drop (slice_index bytes 0 + 2) bytes

-- the types of the columns, and the bytes after them: the number of the table and flags (8), the name of its database and its own precede them
abbrev pub types_in : List ℕ → Option (List ℕ × List ℕ)
types_in body = counted (after_name (after_name (drop 8 body)))

-- the optional metadata of so many columns, after their types: their metadata precede it, and a bit for each
abbrev pub fields_after : ℕ → List ℕ → Option (List ℕ)
fields_after columns bytes = option_and_then (λ metadata. option_and_then (λ bits. Some bits.1) (first_bytes ((columns + 7) / 8) metadata.1)) (counted bytes)

-- the value of the field SIGNEDNESS (1), if that is the first, and the fields after it
abbrev pub first_signs : List ℕ → Option (List ℕ × List ℕ)
first_signs [] = None
first_signs (number ∷ rest) = if number == 1 then counted rest else None

-- signs in the body of a table map with YEAR columns: the types of the columns, the optional metadata, the value of its first field, and the fields after that
pub record Signs : Type 0 where
  pub types : List ℕ
  pub fields : List ℕ
  pub value : List ℕ
  pub after : List ℕ

-- they have one bit for each column with a sign
abbrev pub signs_if_long : List ℕ → List ℕ → List ℕ × List ℕ → Option Signs
signs_if_long types fields signs =
    if length signs.0 == signs_len types then Some (record { types = types; fields = fields; value = signs.0; after = signs.1 }) else None

-- the same by the types of the columns, and the bytes after them
abbrev pub signs_after : List ℕ × List ℕ → Option Signs
signs_after types =
    if list_any is_year types.0 then option_and_then (λ fields. option_and_then (signs_if_long types.0 fields) (first_signs fields)) (fields_after (length types.0) types.1)
    else None

-- the signs in the body of a table map; None if no column is a YEAR, if there are none, or if the bytes aren't a table map
abbrev pub year_signs : List ℕ → Option Signs
year_signs body = option_and_then signs_after (types_in body)

-- ---- as MySQL's servers write them

-- the optional metadata with the signs of numeric columns alone
abbrev pub mysql_fields : Signs → List ℕ
mysql_fields s = field_or_none 1 (packed (numeric_signs s.types s.value)) ++ s.after
