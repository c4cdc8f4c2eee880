-- The plan of a table's columns: what reading a row needs to know about each, from the table map and its optional metadata (MySQL Internals: Table_map_event).
use Rattle.std.specs.Prelude.{ℕ, zero, suc, ◌==◌, Bool, true, false, List, [], ◌∷◌, ◌++◌, decimal, Option, Some, None, slice_get, if◌then◌else◌}
use Rattle.std.specs.declared.result.Result.{Result}
use Rattle.std.specs.declared.result.Result.TheVariants.{Ok, Err}
use Rattle.wire_constants.specs.ColumnTypes.{is_numeric, is_character, is_enum_or_set}
use Rattle.wire_constants.specs.declared.column_type.ColumnType.{ColumnType}
use Rattle.wire_constants.specs.declared.column_type.ColumnType.TheVariants.{MYSQL_TYPE_JSON}
use Rattle.rows_table_map.specs.BitLists.{count_below}
use Rattle.rows_errors.specs.declared.fault.RowsError.TheVariants.{Metadata, Cell}
use Rattle.rows_errors.specs.Readings.{Reading, ◌>>=◌}
use Rattle.rows_cells.specs.ColumnFormats.{column_format}
use Rattle.rows_cells.specs.declared.image.ImageColumn.{ImageColumn}
use Rattle.rows_table_map.specs.ColumnMetadata.{ColumnMeta}
use Rattle.rows_table_map.specs.ColumnViews.{real_type_of}
use Rattle.rows_table_map.specs.declared.bad_column_type.BadColumnType.{BadColumnType}
use Rattle.rows_table_map.specs.Lists.{strings}
use Rattle.rows_table_map.specs.Extracted.{Extracted}
use Rattle.rows_table_map.specs.Served.{bytes_or_none, signs_or_none, charset_item, key_indexes, first_item}

-- a column of a plan: its real type, its index and the format of its cells, and its properties from the optional metadata
pub record PlannedColumn : Type 0 where
  pub real_type : ColumnType
  pub image : ImageColumn
  pub is_unsigned : Bool
  pub character_set : ℕ
  pub name : List ℕ
  pub is_key : Bool

-- what a table map and its optional metadata have about the columns
pub record Table : Type 0 where
  pub columns : List ColumnMeta
  pub signs : List Bool
  pub charset : ℕ → Option (Reading ℕ)
  pub enum_charset : ℕ → Option (Reading ℕ)
  pub names : List (Reading (List ℕ))
  pub keys : List (Reading ℕ)

-- what the plan uses of a table map's columns and of its optional metadata
abbrev pub table_columns_of : List ColumnMeta → Extracted → Table
table_columns_of columns e = record {
  columns = columns;
  signs = signs_or_none e.signs;
  charset = charset_item e.charset e.charsets;
  enum_charset = charset_item e.enum_charset e.enum_charsets;
  names = strings (bytes_or_none e.names);
  keys = key_indexes e.simple_key e.prefixed_key;
}

-- the type, or the error of a cell
abbrev pub known_type : Result ColumnType BadColumnType → Reading ColumnType
known_type (Ok t) = Ok t
known_type (Err e) = Err Cell

-- the real type of a column: `Metadata` if the table has no such column, `Cell` if its type is unknown
abbrev pub column_real_type : Option ColumnMeta → Reading ColumnType
column_real_type None = Err Metadata
column_real_type (Some c) = known_type (real_type_of c)

-- the metadata of a column, or none
abbrev pub metadata_of : Option ColumnMeta → List ℕ
metadata_of None = []
metadata_of (Some c) = c.metadata

-- whether a column's type is known and of this kind
abbrev pub is_of : (ColumnType → Bool) → Reading ColumnType → Bool
is_of kind (Ok t) = kind t
is_of kind (Err e) = false

-- whether a type is JSON
abbrev pub is_json : ColumnType → Bool
is_json MYSQL_TYPE_JSON = true
is_json _ = false

-- how many of the columns before column i are of a kind, by their real types
abbrev pub count_before : (ColumnType → Bool) → Table → ℕ → ℕ
count_before kind t i = count_below (λ j. is_of kind (column_real_type (slice_get t.columns j))) i

-- a missing signedness bit means signed
abbrev pub sign_or_signed : Option Bool → Bool
sign_or_signed None = false
sign_or_signed (Some b) = b

-- whether column i is unsigned: bit j of SIGNEDNESS, where j is the number of numeric columns before it
abbrev pub sign_at : Table → ℕ → ColumnType → Bool
sign_at t i real = if is_numeric real then sign_or_signed (slice_get t.signs (count_before is_numeric t i)) else false

-- a missing character set is 0
abbrev pub charset_or_none : Option (Reading ℕ) → Reading ℕ
charset_or_none None = Ok 0
charset_or_none (Some r) = r

-- the character set of column i, counted among the columns of its kind; 0 for types without one
abbrev pub charset_at : Table → ℕ → ColumnType → Reading ℕ
charset_at t i real =
    if is_character real then charset_or_none (t.charset (count_before is_character t i))
    else if is_enum_or_set real then charset_or_none (t.enum_charset (count_before is_enum_or_set t i))
    else Ok 0

-- a missing name is `@` and the column's index
abbrev pub name_or_index : ℕ → Option (Reading (List ℕ)) → Reading (List ℕ)
name_or_index i None = Ok (64 ∷ decimal i)
name_or_index i (Some r) = r

-- the name of column i
abbrev pub name_at : List (Reading (List ℕ)) → ℕ → Reading (List ℕ)
name_at names i = name_or_index i (slice_get names i)

-- the key's indexes after column i: without the first, if that is i
abbrev pub after_column : ℕ → List (Reading ℕ) → List (Reading ℕ)
after_column i [] = []
after_column i (Err e ∷ keys) = Err e ∷ keys
after_column i (Ok j ∷ keys) = if j == i then keys else Ok j ∷ keys

-- the key indexes that remain after the first n columns: each column removes the first index if it is its own
unfoldable pub keys_after : List (Reading ℕ) → ℕ → List (Reading ℕ)
keys_after keys zero = keys
keys_after keys (suc n) = after_column n (keys_after keys n)

-- whether the next index of a key is that of column i
abbrev pub is_next : ℕ → Option (Reading ℕ) → Reading Bool
is_next i None = Ok false
is_next i (Some index) = index >>= λ j. Ok (j == i)

-- whether the next index of the key is i; true for every key column only if the key names its columns in the table's order
abbrev pub key_at : Table → ℕ → Reading Bool
key_at t i = is_next i (first_item (keys_after t.keys i))

-- column i, or its error
unfoldable pub column_at : Table → ℕ → Reading PlannedColumn
column_at t i = do
  real ← column_real_type (slice_get t.columns i)
  charset ← charset_at t i real
  name ← name_at t.names i
  is_key ← key_at t i
  Ok (record {
    real_type = real;
    image = record { column = i; format = column_format real (metadata_of (slice_get t.columns i)) (sign_at t i real); json_column = count_before is_json t i };
    is_unsigned = sign_at t i real;
    character_set = charset;
    name = name;
    is_key = is_key;
  })

-- the first n columns, or the error of the first of them that has one
unfoldable pub first_columns : Table → ℕ → Reading (List PlannedColumn)
first_columns t zero = Ok []
first_columns t (suc n) = do
  columns ← first_columns t n
  column ← column_at t n
  Ok (columns ++ column ∷ [])
