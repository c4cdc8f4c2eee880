-- Whether a table map's columns are those of a schema: as many, and of the same types (MySQL Internals: Table_map_event; a DATE, a STRING, an ENUM and a SET are told apart by their metadata).
use Rattle.std.specs.Prelude.{ℕ, ◌+◌, ◌==◌, Bool, false, List, [], ◌∷◌, length, Option, Some, None, if◌then◌else◌}
use Rattle.std.specs.declared.result.Result.{Result}
use Rattle.std.specs.declared.result.Result.TheVariants.{Ok, Err}
use Rattle.wire_constants.specs.ColumnTypes.{column_type_number}
use Rattle.wire_constants.specs.declared.column_type.ColumnType.{ColumnType}
use Rattle.wire_constants.specs.declared.column_type.ColumnType.TheVariants as column
use Rattle.rows_table_map.specs.ColumnMetadata.{ColumnMeta, columns_with_metadata}
use Rattle.rows_table_map.specs.ColumnViews.{real_type_of}
use Rattle.rows_table_map.specs.TableMaps.{TableMap}
use Rattle.rows_table_map.specs.declared.bad_column_type.BadColumnType.{BadColumnType}
use Rattle.table_schemas.specs.declared.fits.Difference.{Difference}
use Rattle.table_schemas.specs.declared.fits.Difference.TheVariants.{OtherCount, OtherType}
use Rattle.table_schemas.specs.declared.schema_column.SchemaColumn.{SchemaColumn}

-- the type that servers write today for one of an older server
abbrev pub newest_type : ColumnType → ColumnType
newest_type column.MYSQL_TYPE_TIMESTAMP = column.MYSQL_TYPE_TIMESTAMP2
newest_type column.MYSQL_TYPE_DATETIME = column.MYSQL_TYPE_DATETIME2
newest_type column.MYSQL_TYPE_TIME = column.MYSQL_TYPE_TIME2
newest_type column.MYSQL_TYPE_VAR_STRING = column.MYSQL_TYPE_VARCHAR
newest_type t = t

-- whether a type that was found is this one
abbrev pub is_found : Result ColumnType BadColumnType → ColumnType → Bool
is_found (Ok found) t = column_type_number (newest_type found) == column_type_number t
is_found (Err e) t = false

-- whether a column of a table map has this type
abbrev pub has_type : ColumnMeta → ColumnType → Bool
has_type c t = is_found (real_type_of c) t

-- the first column, from this index on, that has another type
abbrev pub first_other_type : ℕ → List SchemaColumn → List ColumnMeta → Option Difference
first_other_type i [] metas = None
first_other_type i (c ∷ cs) [] = Some (OtherCount i)
first_other_type i (c ∷ cs) (m ∷ metas) = if has_type m c.column_type then first_other_type (i + 1) cs metas else Some (OtherType i)

-- the first difference between a table's columns and those of a table map
abbrev pub first_difference : List SchemaColumn → TableMap → Option Difference
first_difference cs m =
    if length m.column_types == length cs then first_other_type 0 cs (columns_with_metadata m.column_types (Some m.metadata))
    else Some (OtherCount (length m.column_types))
