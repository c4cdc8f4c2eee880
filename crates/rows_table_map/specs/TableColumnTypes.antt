-- The types of a table's columns (MySQL Internals: Table_map_event): the size of their metadata, and their real types.
use Rattle.std.specs.Prelude.{ℕ, List, [], ◌∷◌, ◌==◌, if◌then◌else◌}
use Rattle.std.specs.Int.RustNames.{bit_or}
use Rattle.std.specs.declared.result.Result.{Result}
use Rattle.std.specs.declared.result.Result.TheVariants.{Ok, Err}
use Rattle.wire_constants.specs.declared.column_type.ColumnType.{ColumnType}
use Rattle.wire_constants.specs.declared.column_type.ColumnType.TheVariants as column
use Rattle.rows_table_map.specs.declared.bad_column_type.BadColumnType.{BadColumnType}
use Rattle.rows_table_map.specs.declared.bad_column_type.BadColumnType.TheVariants.{Unexpected}

-- the number of metadata bytes of a type; for TYPED_ARRAY see `array_size`
abbrev pub metadata_size : ColumnType → ℕ
metadata_size column.MYSQL_TYPE_FLOAT = 1
metadata_size column.MYSQL_TYPE_DOUBLE = 1
metadata_size column.MYSQL_TYPE_TINY_BLOB = 1
metadata_size column.MYSQL_TYPE_MEDIUM_BLOB = 1
metadata_size column.MYSQL_TYPE_LONG_BLOB = 1
metadata_size column.MYSQL_TYPE_BLOB = 1
metadata_size column.MYSQL_TYPE_GEOMETRY = 1
metadata_size column.MYSQL_TYPE_JSON = 1
metadata_size column.MYSQL_TYPE_TIME2 = 1
metadata_size column.MYSQL_TYPE_DATETIME2 = 1
metadata_size column.MYSQL_TYPE_TIMESTAMP2 = 1
metadata_size column.MYSQL_TYPE_VECTOR = 1
metadata_size column.MYSQL_TYPE_STRING = 2
metadata_size column.MYSQL_TYPE_VAR_STRING = 2
metadata_size column.MYSQL_TYPE_ENUM = 2
metadata_size column.MYSQL_TYPE_SET = 2
metadata_size column.MYSQL_TYPE_BIT = 2
metadata_size column.MYSQL_TYPE_VARCHAR = 2
metadata_size column.MYSQL_TYPE_NEWDECIMAL = 2
metadata_size other = 0

-- the real type of a STRING column: ENUM (247), SET (248), STRING (254), or an error
abbrev pub string_type : ℕ → Result ColumnType BadColumnType
string_type n =
    if n == 247 then Ok column.MYSQL_TYPE_ENUM
    else if n == 248 then Ok column.MYSQL_TYPE_SET
    else if n == 254 then Ok column.MYSQL_TYPE_STRING
    else Err (Unexpected n)

-- the first byte of a STRING's metadata, with bits 4 and 5 set, is the number of the real type; if it is 0 or missing, the column is a STRING
abbrev pub string_of : List ℕ → Result ColumnType BadColumnType
string_of [] = Ok column.MYSQL_TYPE_STRING
string_of (m ∷ metadata) = if m == 0 then Ok column.MYSQL_TYPE_STRING else string_type (bit_or m 48)

-- the real type of a column: a DATE column has cells of type NEWDATE, and a STRING column may be an ENUM or a SET
abbrev pub real_type : ColumnType → List ℕ → Result ColumnType BadColumnType
real_type column.MYSQL_TYPE_DATE metadata = Ok column.MYSQL_TYPE_NEWDATE
real_type column.MYSQL_TYPE_STRING metadata = string_of metadata
real_type other metadata = Ok other
