-- A row as a field: which bytes encode it, by the bits of its image and the table map.
use Rattle.std.specs.Prelude.{◌≡◌, ◌⊎◌, ℕ, List, map, Option, Some, None, ◌==◌, if◌then◌else◌}
use Rattle.std.specs.List.{AllZip}
use Rattle.std.specs.Option.{option_map}
use Rattle.std.specs.declared.result.Result.TheVariants.{Ok, Err}
use Rattle.rows_table_map.specs.BitLists.{len_of, bit_at}
use Rattle.rows_values.specs.Columns.{ColumnParts, parts_of}
use Rattle.rows_errors.specs.declared.fault.RowsError.{RowsError}
use Rattle.rows_errors.specs.declared.fault.RowsError.TheVariants.{Metadata, Memory}
use Rattle.rows_errors.specs.Readings.{Reading, ◌>>=◌}
use Rattle.rows_cells.specs.BinlogValues.{Kept, IsKeptOf, kept_view}
use Rattle.rows_cells.specs.Images.{ColumnValue, ImageShape, IsImage, image_at}
use Rattle.rows_cells.specs.declared.image.ImageColumn.{ImageColumn}
use Rattle.rows_table_map.specs.MapViews.{map_of}
use Rattle.rows_event_body.specs.PlanViews.{plan_of}
use Rattle.rows_event_body.specs.PickedColumns.{picked_as, definition}
use Rattle.rows_event_body.specs.ImageShapes.{map_plan, shape_picked}
use Rattle.rows_event_body.specs.OwnedRows.{row_values, row_columns, image_of}
use Rattle.rows_event_body.specs.declared.binlog_row.BinlogRow.{BinlogRow}
use Rattle.rows_event_body.specs.declared.row_field.BinlogRowCtx.{BinlogRowCtx}

-- a row, wherever it is in memory: what is kept of each cell, None for a value that was taken; the definitions of its columns; and the columns of the image that it was read from, if any
pub record RowView : Type 0 where
  pub values : List (Option Kept)
  pub definitions : List ColumnParts
  pub image : Option (List ImageColumn)

abbrev pub row_view : BinlogRow → RowView
row_view row = record { values = map (option_map kept_view) (row_values row); definitions = map parts_of (row_columns row); image = image_of row }

-- the image of a context: those of the table's columns whose bits are set, by the plan of the table map; `Metadata` if there isn't one bit for each column
abbrev pub image_of_ctx : BinlogRowCtx → Reading ImageShape
image_of_ctx c =
    if len_of c.columns == c.num_columns then shape_picked (map_plan c.table_map.now) c.num_columns c.has_shared_image (bit_at c.columns)
    else Err Metadata

-- the definitions of the image's columns, with the names of the table map's database and table
abbrev pub definitions_of_ctx : BinlogRowCtx → Reading (List ColumnParts)
definitions_of_ctx c = picked_as (definition (map_of c.table_map.now).database (map_of c.table_map.now).table) (bit_at c.columns) (plan_of c.table_map.now c.num_columns)

-- the value exists, and is what is kept of the cell
abbrev pub IsKeptValue : ColumnValue → Option Kept → Type 0
IsKeptValue cell None = ⊥
IsKeptValue cell (Some kept) = IsKeptOf cell.value kept

-- the bytes are the context's image, and the row has a value for each of its cells, in order, the definitions of its columns, and its columns
pub record IsRowField (c : BinlogRowCtx) (row : RowView) (bytes : List ℕ) : Type 0 where
  pub shape : ImageShape
  pub shape_is : image_of_ctx c ≡ Ok shape
  pub cells : List ColumnValue
  pub image_is : IsImage shape cells bytes
  pub values_are : AllZip IsKeptValue cells row.values
  pub definitions_are : definitions_of_ctx c ≡ Ok row.definitions
  pub columns_are : row.image ≡ Some shape.columns

-- out of memory; or the error of the context's image, or of reading it from the bytes
abbrev pub RowFails : BinlogRowCtx → List ℕ → RowsError → Type 0
RowFails c bytes e = (e ≡ Memory) ⊎ ((image_of_ctx c >>= λ shape. image_at shape bytes) ≡ Err e)
