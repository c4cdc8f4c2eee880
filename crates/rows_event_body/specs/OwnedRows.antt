-- The values, the columns and the image of an owned row.
use Rattle.std.specs.Prelude.{ℕ, List, Option, slice_get}
use Rattle.std.specs.Option.{option_flatten}
use Rattle.std.specs.Rc.{rc_slice_items}
use Rattle.rows_values.specs.declared.rows.column.Column.{Column}
use Rattle.rows_cells.specs.declared.image.ImageColumn.{ImageColumn}
use Rattle.rows_cells.specs.declared.binlog_value.BinlogValue.{BinlogValue}
use Rattle.rows_event_body.specs.declared.binlog_row.BinlogRow.{BinlogRow}
use Rattle.rows_event_body.specs.ImageColumnIndexes.{image_items}

-- the values in order, None for each that was taken
abbrev pub row_values : BinlogRow → List (Option BinlogValue)
row_values row = row.values.items

-- the columns in order
abbrev pub row_columns : BinlogRow → List Column
row_columns row = rc_slice_items row.columns

-- the columns of the image that the row was read from, if any
abbrev pub image_of : BinlogRow → Option (List ImageColumn)
image_of row = image_items row.image

-- the value at an index, if there is one and it wasn't taken
abbrev pub row_value : List (Option BinlogValue) → ℕ → Option BinlogValue
row_value values i = option_flatten (slice_get values i)
