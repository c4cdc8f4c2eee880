-- The format of a column's cells, by its real type, its metadata, and whether it is unsigned (MySQL Internals: Table_map_event, metadata of column types).
use Rattle.std.specs.Prelude.{ℕ, ◌+◌, ◌-◌, ◌*◌, ◌/◌, ◌%◌, Bool, true, false, List, [], ◌∷◌, nat_lt, ◌==◌, if◌then◌else◌}
use Rattle.wire_constants.specs.declared.column_type.ColumnType.{ColumnType}
use Rattle.wire_constants.specs.declared.column_type.ColumnType.TheVariants as column
use Rattle.rows_cells.specs.declared.format.Width.{Width}
use Rattle.rows_cells.specs.declared.format.Width.TheVariants as width
use Rattle.rows_cells.specs.declared.format.CellFormat.{CellFormat}
use Rattle.rows_cells.specs.declared.format.CellFormat.TheVariants as format

-- the format of an integer of this width
abbrev pub number_format : Bool → Width → CellFormat
number_format true w = format.Unsigned w
number_format false w = format.Signed w

-- a string of at most this many bytes: its length field has one byte if the maximum is below 256, else two
abbrev pub string_format : ℕ → CellFormat
string_format greatest = format.Counted (if nat_lt greatest 256 then width.One else width.Two)

-- a BLOB whose length field has this many bytes
abbrev pub blob_format : ℕ → CellFormat
blob_format m =
    if m == 1 then format.Counted width.One
    else if m == 2 then format.Counted width.Two
    else if m == 3 then format.Counted width.Three
    else if m == 4 then format.Counted width.Four
    else format.NoMetadata

-- an ENUM's index in its list of members, in one byte or two
abbrev pub enum_format : ℕ → CellFormat
enum_format n = if n == 1 then format.Unsigned width.One else if n == 2 then format.Unsigned width.Two else format.NoMetadata

-- the maximum length of a STRING column with metadata m, n: n + 256 * (3 - bits 4 and 5 of m); 256 * n if m is 0, which no server writes (MySQL: n)
abbrev pub greatest_string : ℕ → ℕ → ℕ
greatest_string m n = if m == 0 then 256 * n else 256 * (3 - m / 16 % 4) + n

-- the format for the first metadata byte; `NoMetadata` if it is missing
abbrev pub by_one : (ℕ → CellFormat) → List ℕ → CellFormat
by_one format_of [] = format.NoMetadata
by_one format_of (m ∷ metadata) = format_of m

-- the format for the first two metadata bytes; `NoMetadata` if one is missing
abbrev pub by_two : (ℕ → ℕ → CellFormat) → List ℕ → CellFormat
by_two format_of [] = format.NoMetadata
by_two format_of (m ∷ []) = format.NoMetadata
by_two format_of (m ∷ n ∷ metadata) = format_of m n

-- types whose cell format depends on the metadata
abbrev pub metadata_format : ColumnType → List ℕ → CellFormat
metadata_format column.MYSQL_TYPE_TIMESTAMP2 metadata = by_one format.Timestamp2 metadata
metadata_format column.MYSQL_TYPE_DATETIME2 metadata = by_one format.Datetime2 metadata
metadata_format column.MYSQL_TYPE_TIME2 metadata = by_one format.Time2 metadata
metadata_format column.MYSQL_TYPE_NEWDECIMAL metadata = by_two format.Decimal metadata
metadata_format column.MYSQL_TYPE_BIT metadata = by_two (λ m n. format.Plain ((n * 8 + m + 7) / 8)) metadata
metadata_format column.MYSQL_TYPE_ENUM metadata = by_two (λ m n. enum_format n) metadata
metadata_format column.MYSQL_TYPE_SET metadata = by_two (λ m n. format.Plain n) metadata
metadata_format column.MYSQL_TYPE_VARCHAR metadata = by_two (λ m n. string_format (m + 256 * n)) metadata
metadata_format column.MYSQL_TYPE_VAR_STRING metadata = by_two (λ m n. string_format (m + 256 * n)) metadata
metadata_format column.MYSQL_TYPE_STRING metadata = by_two (λ m n. string_format (greatest_string m n)) metadata
metadata_format column.MYSQL_TYPE_TINY_BLOB metadata = by_one blob_format metadata
metadata_format column.MYSQL_TYPE_MEDIUM_BLOB metadata = by_one blob_format metadata
metadata_format column.MYSQL_TYPE_LONG_BLOB metadata = by_one blob_format metadata
metadata_format column.MYSQL_TYPE_BLOB metadata = by_one blob_format metadata
metadata_format column.MYSQL_TYPE_GEOMETRY metadata = by_one blob_format metadata
metadata_format column.MYSQL_TYPE_VECTOR metadata = by_one blob_format metadata
metadata_format other metadata = format.NoCells

-- the format of a column's cells, by its real type, its metadata and whether it is unsigned
abbrev pub column_format : ColumnType → List ℕ → Bool → CellFormat
column_format column.MYSQL_TYPE_TINY metadata unsigned = number_format unsigned width.One
column_format column.MYSQL_TYPE_SHORT metadata unsigned = number_format unsigned width.Two
column_format column.MYSQL_TYPE_INT24 metadata unsigned = number_format unsigned width.Three
column_format column.MYSQL_TYPE_LONG metadata unsigned = number_format unsigned width.Four
column_format column.MYSQL_TYPE_LONGLONG metadata unsigned = number_format unsigned width.Eight
column_format column.MYSQL_TYPE_FLOAT metadata unsigned = format.Float
column_format column.MYSQL_TYPE_DOUBLE metadata unsigned = format.Double
column_format column.MYSQL_TYPE_TIMESTAMP metadata unsigned = format.Unsigned width.Four
column_format column.MYSQL_TYPE_TIME metadata unsigned = format.OldTime
column_format column.MYSQL_TYPE_DATETIME metadata unsigned = format.OldDatetime
column_format column.MYSQL_TYPE_YEAR metadata unsigned = format.Year
column_format column.MYSQL_TYPE_NEWDATE metadata unsigned = format.NewDate
column_format column.MYSQL_TYPE_JSON metadata unsigned = format.Json
column_format other metadata unsigned = metadata_format other metadata

-- a JSON column whose partial bit is set has JSON diffs
abbrev pub format_by : Bool → CellFormat → CellFormat
format_by true format.Json = format.JsonDiffs
format_by b f = f
