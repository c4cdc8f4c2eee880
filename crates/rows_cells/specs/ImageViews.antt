-- The cells of an image, read one at a time.
use Rattle.std.specs.Prelude.{◌≡◌, ◌<◌, false, ℕ, suc, ◌-◌, length, slice_index_or, List, [], ◌∷◌, drop, Option, Some, None}
use Rattle.std.specs.declared.result.Result.{Result}
use Rattle.std.specs.declared.result.Result.TheVariants.{Ok, Err}
use Rattle.rows_errors.specs.declared.fault.RowsError.{RowsError}
use Rattle.rows_errors.specs.Readings.{Reading, ◌>>=◌}
use Rattle.rows_cells.specs.declared.cell.CellRef.{CellRef}
use Rattle.rows_cells.specs.declared.format.Width.TheVariants.{One}
use Rattle.rows_cells.specs.declared.format.CellFormat.TheVariants.{Signed}
use Rattle.rows_cells.specs.declared.image.ImageColumn.{ImageColumn}
use Rattle.rows_cells.specs.declared.image.ImageField.{ImageField}
use Rattle.rows_cells.specs.declared.image.ImagePlan.{ImagePlan}
use Rattle.rows_cells.specs.declared.image.ImageCells.{ImageCells}
use Rattle.rows_cells.specs.CellValues.{CellValue}
use Rattle.rows_cells.specs.CellViews.{cell_value, IsReadable}
use Rattle.rows_cells.specs.Images.{ColumnValue, ImageShape, bit, format_in, field_at, cells_at}

-- the shape of an image that the code reads by a plan
abbrev pub image_shape : ImagePlan → ImageShape
image_shape p = record { columns = p.columns.now; json_columns = p.json_columns }

-- the remaining cells, and the bytes after the last of them
abbrev pub remaining_cells : ImageCells → Reading (List ColumnValue × List ℕ)
remaining_cells c = cells_at c.bits.now c.nulls.now c.index (drop c.index c.columns.now) c.rest.now

-- the columns of the remaining cells
abbrev pub columns_left : ImageCells → List ImageColumn
columns_left c = drop c.index c.columns.now

-- the number of remaining cells
abbrev pub cells_count : ImageCells → ℕ
cells_count c = length c.columns.now - c.index

-- the next cell was returned, it is readable, and the others remain; or all cells had been returned, and only the bytes after them remain; or the cell can't be read, and the state is unchanged
abbrev pub ReturnsCell : ImageCells → Result (Option (ℕ × CellRef)) RowsError → ImageCells → Type 0
ReturnsCell old (Ok (Some x)) new = (remaining_cells old ≡ (remaining_cells new >>= λ left. Ok (record { column = x.0; value = cell_value x.1 } ∷ left.0, left.1))) × (cells_count old ≡ suc (cells_count new)) × IsReadable x.1
ReturnsCell old (Ok None) new = (remaining_cells old ≡ Ok ([], old.rest.now)) × (cells_count old ≡ 0) × (new ≡ old)
ReturnsCell old (Err e) new = (remaining_cells old ≡ Err e) × (new ≡ old)

-- the default that indexing returns if there is no such column
abbrev pub no_column : ImageColumn
no_column = record { column = 0; format = Signed One; json_column = 0 }

-- the next column, if there is one
abbrev pub next_column : ImageCells → ImageColumn
next_column c = slice_index_or c.columns.now c.index no_column

-- the cell that the remaining bytes begin with, by its null bit and the format of its column
abbrev pub next_value : ImageCells → Reading (CellValue × List ℕ)
next_value c = field_at (bit c.nulls.now c.index) (format_in c.bits.now (next_column c)) c.rest.now

-- the description of the next cell before it is read
pub record IsNextField (c : ImageCells) (f : ImageField) : Type 0 where
  pub some : c.index < length c.columns.now
  pub column : f.column ≡ (next_column c).column
  pub value : field_at f.is_null f.format f.bytes.now ≡ next_value c

-- the format of the next cell, unless it is NULL
abbrev pub HasNextFormat : ImageCells → ImageField → Type 0
HasNextFormat c f = f.is_null ≡ false → f.format ≡ format_in c.bits.now (next_column c)

-- if the next cell has a value and `rest` follows it, that cell counts as returned and the others remain
abbrev pub SkipsField : ImageCells → List ℕ → ImageCells → Type 0
SkipsField old rest new =
    ((v : CellValue) → next_value old ≡ Ok (v, rest) → remaining_cells old ≡ (remaining_cells new >>= λ left. Ok (record { column = (next_column old).column; value = v } ∷ left.0, left.1)))
    × (cells_count old ≡ suc (cells_count new)) × (new.rest.now ≡ rest)
