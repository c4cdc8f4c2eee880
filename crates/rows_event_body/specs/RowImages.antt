-- The owned rows that are read from images.
use Rattle.std.specs.Prelude.{◌≡◌, ℕ, List, Option, Some, None}
use Rattle.std.specs.List.{AllZip}
use Rattle.std.specs.Rc.{rc_slice_items}
use Rattle.std.specs.declared.result.Result.TheVariants.{Ok}
use Rattle.rows_cells.specs.CellViews.{Holds}
use Rattle.rows_cells.specs.Images.{ColumnValue, ImageShape, image_at}
use Rattle.rows_cells.specs.ImageViews.{remaining_cells}
use Rattle.rows_cells.specs.declared.image.ImageCells.{ImageCells}
use Rattle.rows_cells.specs.declared.binlog_value.BinlogValue.{BinlogValue}
use Rattle.rows_event_body.specs.declared.binlog_row.BinlogRow.{BinlogRow}
use Rattle.rows_event_body.specs.declared.row_image.RowImage.{RowImage}
use Rattle.rows_event_body.specs.OwnedRows.{row_values, row_columns, image_of}

-- the image layout of a reader
abbrev pub image_read : RowImage → ImageShape
image_read r = record { columns = rc_slice_items r.columns; json_columns = r.json_columns }

-- the value exists, and is that of the cell
abbrev pub IsHeld : ColumnValue → Option BinlogValue → Type 0
IsHeld cell None = ⊥
IsHeld cell (Some v) = Holds cell.value v

-- the row of an image: a value for each cell, in order, and the columns that all rows of the image share
pub record IsRowOf (r : RowImage) (image : List ColumnValue) (row : BinlogRow) : Type 0 where
  pub values : AllZip IsHeld image (row_values row)
  pub columns : row_columns row ≡ rc_slice_items r.definitions
  pub columns_are_of : image_of row ≡ Some (rc_slice_items r.columns)

-- the image that the bytes begin with was read, and this follows it
pub record IsReadRow (r : RowImage) (bytes : List ℕ) (row : BinlogRow) (rest : List ℕ) : Type 0 where
  pub image : List ColumnValue
  pub read : image_at (image_read r) bytes ≡ Ok (image, rest)
  pub row_is : IsRowOf r image row

-- the values of the remaining cells: one for each, in order, and the bytes after them
pub record ReadsValues (old : ImageCells) (values : List (Option BinlogValue)) (new : ImageCells) : Type 0 where
  pub cells : List ColumnValue
  pub read : remaining_cells old ≡ Ok (cells, new.rest.now)
  pub held : AllZip IsHeld cells values
