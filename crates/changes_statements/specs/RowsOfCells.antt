-- The cells of an image of a row, by their columns.
use Rattle.std.specs.Prelude.{◌≡◌, ◌<◌, ℕ, List, length, Option, None, Some, slice_get, unwrap_or}
use Rattle.rows_cells.specs.declared.cell.CellRef.{CellRef}
use Rattle.changes_statements.specs.declared.row_cells.RowCells.{RowCells}

-- the cells of an image, by the indexes of their columns
abbrev pub Cells : Type 0
Cells = List (Option CellRef)

abbrev pub cells_in : RowCells → Cells
cells_in row = row.cells.items

-- the cell of a column; None if the image doesn't have it
abbrev pub cell_in : Cells → ℕ → Option CellRef
cell_in cells column = unwrap_or (slice_get cells column) None

-- an image doesn't have the column, and another one has it
pub record IsMissing (cells other : Cells) (column : ℕ) : Type 0 where
  pub none : cell_in cells column ≡ None
  pub cell : CellRef
  pub other_has : cell_in other column ≡ Some cell

-- a cell, or without one that of another image
abbrev pub cell_or : Option CellRef → Option CellRef → Option CellRef
cell_or (Some cell) other = Some cell
cell_or None other = other

-- an image with the cells of another one for the columns that it lacks
pub record IsFilled (cells other filled : Cells) : Type 0 where
  pub same_length : length filled ≡ length cells
  pub each : (column : ℕ) → column < length cells → cell_in filled column ≡ cell_or (cell_in cells column) (cell_in other column)
