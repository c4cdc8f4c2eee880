-- The columns of a table map (MySQL Internals: Table_map_event): the number of each column's type, and its metadata.
use Rattle.std.specs.Prelude.{ℕ, ◌+◌, List, [], ◌∷◌, length, take, drop, find, Option, Some, None, nat_le, ◌==◌, if◌then◌else◌}
use Rattle.std.specs.Option.{option_map}
use Rattle.wire_constants.specs.ColumnTypes.{column_type_number}
use Rattle.wire_constants.specs.declared.column_type.ColumnType.{ColumnType}
use Rattle.wire_constants.specs.declared.column_type.ColumnType.TheVariants as column
use Rattle.wire_constants.specs.AllColumnTypes.{column_types}
use Rattle.rows_table_map.specs.TableColumnTypes.{metadata_size}

-- the type with this number, if there is one
unfoldable pub column_type : ℕ → Option ColumnType
column_type n = find (λ t. column_type_number t == n) column_types

-- one byte for an element's type, and its metadata, which for VARCHAR has three bytes; None for an array
abbrev pub plain_size : ColumnType → Option ℕ
plain_size column.MYSQL_TYPE_TYPED_ARRAY = None
plain_size column.MYSQL_TYPE_VARCHAR = Some 4
plain_size t = Some (1 + metadata_size t)

-- the size of an element with its type byte: n for a plain element; for an array, one byte more than the inner array's metadata
abbrev pub size_or : Option ℕ → Option ℕ → Option ℕ
size_or None inner = option_map (λ n. 1 + n) inner
size_or (Some n) inner = Some n

-- the size of the metadata of an array whose element has this type
abbrev pub element_size : Option ColumnType → Option ℕ → Option ℕ
element_size None inner = None
element_size (Some t) inner = size_or (plain_size t) inner

-- The size of a TYPED_ARRAY's metadata: its element's type in one byte, and the element's metadata. None if the element's type is missing or unknown. The element may be an array itself.
unfoldable pub array_size : List ℕ → Option ℕ
array_size [] = None
array_size (n ∷ bytes) = element_size (column_type n) (array_size bytes)

-- the size of a column's metadata, by its type and by the bytes of the metadata
abbrev pub size_by_type : Option ColumnType → List ℕ → Option ℕ
size_by_type None bytes = None
size_by_type (Some column.MYSQL_TYPE_TYPED_ARRAY) bytes = array_size bytes
size_by_type (Some t) bytes = Some (metadata_size t)

-- a column's metadata and the bytes after it; None if its size is unknown or fewer bytes remain
abbrev pub split_optional : Option ℕ → List ℕ → Option (List ℕ × List ℕ)
split_optional None bytes = None
split_optional (Some n) bytes = if nat_le n (length bytes) then Some (take n bytes, drop n bytes) else None

-- the metadata of a column whose type has number n, and the bytes after it
abbrev pub split_metadata : ℕ → Option (List ℕ) → Option (List ℕ × List ℕ)
split_metadata n None = None
split_metadata n (Some bytes) = split_optional (size_by_type (column_type n) bytes) bytes

-- a column: the number of its type, and its metadata
pub record ColumnMeta : Type 0 where
  pub number : ℕ
  pub metadata : List ℕ

-- the metadata, or none
abbrev pub own_metadata : Option (List ℕ × List ℕ) → List ℕ
own_metadata None = []
own_metadata (Some x) = x.0

-- the bytes after the metadata, if they are known
abbrev pub after_metadata : Option (List ℕ × List ℕ) → Option (List ℕ)
after_metadata None = None
after_metadata (Some x) = Some x.1

-- the type and metadata of each column; if a column's metadata has an unknown size or missing bytes, that column and all later ones have none
unfoldable pub columns_with_metadata : List ℕ → Option (List ℕ) → List ColumnMeta
columns_with_metadata [] bytes = []
columns_with_metadata (n ∷ types) bytes =
    record { number = n; metadata = own_metadata (split_metadata n bytes) }
    ∷ columns_with_metadata types (after_metadata (split_metadata n bytes))
