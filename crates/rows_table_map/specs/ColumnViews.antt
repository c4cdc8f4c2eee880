-- The columns of a table map, read one at a time (the crate, table_map_event.rs).
use Rattle.std.specs.Prelude.{◌≡◌, ℕ, List, [], ◌∷◌, Option, Some, None}
use Rattle.std.specs.Borrow.{Bor}
use Rattle.rows_table_map.specs.declared.columns.ColumnMeta.{ColumnMeta as CodeColumn}
use Rattle.rows_table_map.specs.declared.columns.IterColumns.{IterColumns}
use Rattle.rows_table_map.specs.declared.table_map.TableMapEvent.{TableMapEvent}
use Rattle.rows_table_map.specs.declared.bad_column_type.BadColumnType.{BadColumnType}
use Rattle.rows_table_map.specs.declared.bad_column_type.BadColumnType.TheVariants.{Unknown}
use Rattle.rows_table_map.specs.ColumnMetadata.{ColumnMeta, column_type, columns_with_metadata}
use Rattle.rows_table_map.specs.TableColumnTypes.{real_type}
use Rattle.rows_table_map.specs.MapViews.{map_of}
use Rattle.wire_constants.specs.declared.column_type.ColumnType.{ColumnType}
use Rattle.std.specs.declared.result.Result.{Result}
use Rattle.std.specs.declared.result.Result.TheVariants.{Ok, Err}

-- the bytes of a slice, if there is one
abbrev pub slice_bytes : Option (Bor (List ℕ)) → Option (List ℕ)
slice_bytes None = None
slice_bytes (Some b) = Some b.now

abbrev pub column_meta_view : CodeColumn → ColumnMeta
column_meta_view c = record { number = c.number; metadata = c.metadata.now }

-- the columns of a table map
abbrev pub table_map_columns : TableMapEvent → List ColumnMeta
table_map_columns t = columns_with_metadata (map_of t).column_types (Some (map_of t).metadata)

abbrev pub metadata_in : Option ColumnMeta → Option (List ℕ)
metadata_in None = None
metadata_in (Some c) = Some c.metadata

abbrev pub some_type : Result ColumnType BadColumnType → Result (Option ColumnType) BadColumnType
some_type (Ok t) = Ok (Some t)
some_type (Err e) = Err e

-- the real type of a column whose type is known, or the error
abbrev pub type_by : ColumnMeta → Option ColumnType → Result ColumnType BadColumnType
type_by c None = Err (Unknown (record { 0 = c.number }))
type_by c (Some t) = real_type t c.metadata

-- the real type of a column, or the error
abbrev pub real_type_of : ColumnMeta → Result ColumnType BadColumnType
real_type_of c = type_by c (column_type c.number)

abbrev pub type_in : Option ColumnMeta → Result (Option ColumnType) BadColumnType
type_in None = Ok None
type_in (Some c) = some_type (real_type_of c)

-- the remaining columns
abbrev pub remaining_columns : IterColumns → List ColumnMeta
remaining_columns i = columns_with_metadata i.types.now (slice_bytes i.metadata)

-- the next column was returned, and the others remain; or no column remains
abbrev pub ReturnsColumn : IterColumns → Option CodeColumn → IterColumns → Type 0
ReturnsColumn old (Some c) new = remaining_columns old ≡ column_meta_view c ∷ remaining_columns new
ReturnsColumn old None new = (remaining_columns old ≡ []) × (new ≡ old)
