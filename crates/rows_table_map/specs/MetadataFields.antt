-- The fields of the optional metadata (MySQL Internals: Table_map_event): a type in one byte, the length of the value, and the value.
use Rattle.std.specs.Prelude.{◌≡◌, ℕ, zero, suc, ◌+◌, ◌/◌, ◌==◌, Bool, false, List, [], ◌∷◌, length, slice_index, map, find, count_by, Option, Some, None, nat_lt, if◌then◌else◌}
use Rattle.std.specs.declared.result.Result.TheVariants.{Ok, Err}
use Rattle.wire_buf.specs.Encoding.{Encoding, Both}
use Rattle.wire_constants.specs.ColumnTypes.{column_type_number, is_numeric}
use Rattle.wire_constants.specs.declared.column_type.ColumnType.{ColumnType}
use Rattle.rows_constants.specs.declared.optional_metadata_field_type.OptionalMetadataFieldType.{OptionalMetadataFieldType}
use Rattle.rows_constants.specs.declared.optional_metadata_field_type.OptionalMetadataFieldType.TheVariants.{SIGNEDNESS, DEFAULT_CHARSET, COLUMN_CHARSET, COLUMN_NAME, SET_STR_VALUE, ENUM_STR_VALUE, GEOMETRY_TYPE, SIMPLE_PRIMARY_KEY, PRIMARY_KEY_WITH_PREFIX, ENUM_AND_SET_DEFAULT_CHARSET, ENUM_AND_SET_COLUMN_CHARSET, COLUMN_VISIBILITY, VECTOR_DIMENSIONALITY}
use Rattle.rows_table_map.specs.BitLists.{highest_bit}
use Rattle.rows_errors.specs.declared.fault.RowsError.TheVariants.{EndOfBody, RemainingBytes}
use Rattle.wire_constants.specs.AllColumnTypes.{column_types}
use Rattle.rows_errors.specs.Readings.{Reading, ◌>>=◌}
use Rattle.rows_table_map.specs.Entries.{StringEncoding, split_at, lenenc_at, string_at}
use Rattle.rows_table_map.specs.Lists.{items_of}
use Rattle.rows_table_map.specs.KnownConstants.{field_type}

-- n bits, from the bit of index k on
unfoldable pub bits_from : (ℕ → Bool) → ℕ → ℕ → List Bool
bits_from bit k zero = []
bits_from bit k (suc n) = bit k ∷ bits_from bit (k + 1) n

-- n bits, from the highest of the first byte, in exactly (n + 7)/8 bytes
abbrev pub bits_in : ℕ → List ℕ → Reading (List Bool)
bits_in n value =
    if nat_lt (length value) ((n + 7) / 8) then Err EndOfBody
    else if nat_lt ((n + 7) / 8) (length value) then Err RemainingBytes
    else Ok (bits_from (highest_bit value) 0 n)

-- whether a known type is numeric
abbrev pub numeric : Option ColumnType → Bool
numeric None = false
numeric (Some t) = is_numeric t

-- whether a byte is the number of a numeric type
unfoldable pub is_numeric_number : ℕ → Bool
is_numeric_number n = numeric (find (λ t. column_type_number t == n) column_types)

-- the number of numeric columns, by the type bytes in the table map
abbrev pub numeric_count : List ℕ → ℕ
numeric_count columns = count_by is_numeric_number columns

-- The value of a field. That of a default charset is the charset and the bytes of the pairs after it; that of a list is its bytes.
pub data Field : Type 0 where
  signedness : List Bool → Field
  default_charset : ℕ × List ℕ → Field
  column_charset : List ℕ → Field
  column_name : List ℕ → Field
  set_str_value : List ℕ → Field
  enum_str_value : List ℕ → Field
  geometry_types : List ℕ → Field
  simple_primary_key : List ℕ → Field
  primary_key_with_prefix : List ℕ → Field
  enum_and_set_default_charset : ℕ × List ℕ → Field
  enum_and_set_column_charset : List ℕ → Field
  column_visibility : List Bool → Field
  dimensionality : List ℕ → Field

-- the value of a field of this type, in a table whose columns have these type bytes
abbrev pub field_of : List ℕ → OptionalMetadataFieldType → List ℕ → Reading Field
field_of columns SIGNEDNESS value = bits_in (numeric_count columns) value >>= λ bits. Ok (signedness bits)
field_of columns DEFAULT_CHARSET value = lenenc_at value >>= λ charset. Ok (default_charset charset)
field_of columns COLUMN_CHARSET value = Ok (column_charset value)
field_of columns COLUMN_NAME value = Ok (column_name value)
field_of columns SET_STR_VALUE value = Ok (set_str_value value)
field_of columns ENUM_STR_VALUE value = Ok (enum_str_value value)
field_of columns GEOMETRY_TYPE value = Ok (geometry_types value)
field_of columns SIMPLE_PRIMARY_KEY value = Ok (simple_primary_key value)
field_of columns PRIMARY_KEY_WITH_PREFIX value = Ok (primary_key_with_prefix value)
field_of columns ENUM_AND_SET_DEFAULT_CHARSET value = lenenc_at value >>= λ charset. Ok (enum_and_set_default_charset charset)
field_of columns ENUM_AND_SET_COLUMN_CHARSET value = Ok (enum_and_set_column_charset value)
field_of columns COLUMN_VISIBILITY value = bits_in (length columns) value >>= λ bits. Ok (column_visibility bits)
field_of columns VECTOR_DIMENSIONALITY value = Ok (dimensionality value)

-- the value of a field whose type has this number
abbrev pub field_in : List ℕ → ℕ → List ℕ → Reading Field
field_in columns number value = field_type number >>= λ t. field_of columns t value

-- the encoding of a field: the number of its type, and its value as a length-encoded string
abbrev pub ByteItself : Encoding ℕ
ByteItself v bytes rest = bytes ≡ v ∷ []

abbrev pub FieldEncoding : Encoding (ℕ × List ℕ)
FieldEncoding = Both ByteItself StringEncoding

-- the type number and the value that bytes begin with, and the bytes after them; this computes what `FieldEncoding` states, as the law `entries_are_read` says
abbrev pub tagged_at : List ℕ → Reading ((ℕ × List ℕ) × List ℕ)
tagged_at bytes = do
  tag ← split_at 1 bytes
  value ← string_at tag.1
  Ok ((slice_index tag.0 0, value.0), value.1)

-- the type and the value of each field, in order
abbrev pub tagged : List ℕ → List (Reading (ℕ × List ℕ))
tagged = items_of tagged_at

-- the field with this type number and value
abbrev pub read_field : List ℕ → Reading (ℕ × List ℕ) → Reading Field
read_field columns field = field >>= λ f. field_in columns f.0 f.1

-- each field of the optional metadata, or its error, for columns with these type bytes
abbrev pub fields : List ℕ → List ℕ → List (Reading Field)
fields columns bytes = map (read_field columns) (tagged bytes)
