-- The indexes in the table of a row's columns.
use Rattle.std.specs.Prelude.{ℕ, List, length, Option, Some, None, option_map, slice_get}
use Rattle.std.specs.Rc.{rc_slice_items}
use Rattle.std.specs.declared.rc.RcSlice.{RcSlice}
use Rattle.rows_cells.specs.declared.image.ImageColumn.{ImageColumn}

-- the columns of the image, if the row was read from one
abbrev pub image_items : {Z : Type 0} → Option (RcSlice ImageColumn Z) → Option (List ImageColumn)
image_items None = None
image_items (Some columns) = Some (rc_slice_items columns)

-- the number of values: that of the image's columns, or any number if there is no image
abbrev pub value_count : Option (List ImageColumn) → ℕ → ℕ
value_count None n = n
value_count (Some columns) n = length columns

-- the column index of the value at an index: that of its column in the image, or the index itself without an image
abbrev pub column_at_index : Option (List ImageColumn) → ℕ → Option ℕ
column_at_index None i = Some i
column_at_index (Some columns) i = option_map (λ c. c.column) (slice_get columns i)
