-- The rows of an event, read part by part.
use Rattle.std.specs.Prelude.{◌≡◌, ◌<◌, ℕ, ◌+◌, ◌*◌, ◌-◌, List, [], ◌∷◌, length, Option, Some, None}
use Rattle.std.specs.declared.result.Result.{Result}
use Rattle.std.specs.declared.result.Result.TheVariants.{Ok, Err}
use Rattle.rows_errors.specs.declared.fault.RowsError.{RowsError}
use Rattle.rows_errors.specs.Readings.{Reading, ◌>>=◌}
use Rattle.rows_cells.specs.declared.image.ImagePlan.{ImagePlan}
use Rattle.rows_cells.specs.declared.rows.RowPlan.{RowPlan}
use Rattle.rows_cells.specs.declared.rows.RowPart.{RowPart}
use Rattle.rows_cells.specs.declared.rows.RowPart.TheVariants as part
use Rattle.rows_cells.specs.declared.rows.Stage.{Stage}
use Rattle.rows_cells.specs.declared.rows.Stage.TheVariants.{Start, First, Second}
use Rattle.rows_cells.specs.declared.rows.RowsCursor.{RowsCursor}
use Rattle.rows_cells.specs.CellViews.{cell_value, IsReadable}
use Rattle.rows_cells.specs.Images.{ColumnValue, ImageShape}
use Rattle.rows_cells.specs.ImageViews.{image_shape, remaining_cells, cells_count}
use Rattle.rows_cells.specs.EventRows.{images_at, row_at, takes_some}

-- the shape of the second image, if each row has one
abbrev pub second_shape : Option ImagePlan → List ImageShape
second_shape None = []
second_shape (Some p) = image_shape p ∷ []

-- the shapes of the images in each row
abbrev pub row_shape : RowPlan → List ImageShape
row_shape p = image_shape p.first ∷ second_shape p.second

-- a row, and the bytes after it
abbrev pub RowAndRest : Type 0
RowAndRest = List (List ColumnValue) × List ℕ

-- an image, and then the images of these shapes
abbrev pub before_images : List ImageShape → List ColumnValue × List ℕ → Reading RowAndRest
before_images shapes x = images_at shapes x.1 >>= λ more. Ok (x.0 ∷ more.0, more.1)

-- the rest of the row that was begun
abbrev pub rest_of_row : List ImageShape → RowsCursor → Reading RowAndRest
rest_of_row after c = (remaining_cells c.cells >>= before_images after) >>= takes_some c.row_len

abbrev pub row_by : Stage → RowsCursor → Reading RowAndRest
row_by Start c = row_at (row_shape c.plan) c.cells.rest.now
row_by First c = rest_of_row (second_shape c.plan.second) c
row_by Second c = rest_of_row [] c

-- the row that the bytes begin with, or the rest of the row that was begun: the remaining cells of its image and its remaining images; and the bytes after the row
abbrev pub remaining_row : RowsCursor → Reading RowAndRest
remaining_row c = row_by c.stage c

-- no row is begun, and these bytes remain
abbrev pub IsBetweenRows : RowsCursor → List ℕ → Type 0
IsBetweenRows c bytes = (c.stage ≡ Start) × (c.cells.rest.now ≡ bytes)

abbrev pub IsInRow : RowsCursor → Type 0
IsInRow c = c.stage ≡ Start → ⊥

-- the number of parts in an image, and in a row
abbrev pub image_parts : ImagePlan → ℕ
image_parts p = length p.columns.now + 1

abbrev pub second_parts : Option ImagePlan → ℕ
second_parts None = 0
second_parts (Some p) = image_parts p

abbrev pub row_parts : RowPlan → ℕ
row_parts p = image_parts p.first + second_parts p.second

abbrev pub parts_by : Stage → RowsCursor → ℕ
parts_by Start c = length c.cells.rest.now * row_parts c.plan
parts_by First c = (c.row_len - 1) * row_parts c.plan + (cells_count c.cells + 1 + second_parts c.plan.second)
parts_by Second c = (c.row_len - 1) * row_parts c.plan + (cells_count c.cells + 1)

-- a measure that decreases with each part
abbrev pub remaining_parts : RowsCursor → ℕ
remaining_parts c = parts_by c.stage c

-- a cell, added to the cells of the image
abbrev pub with_cell : ColumnValue → List (List ColumnValue) → List (List ColumnValue)
with_cell v [] = []
with_cell v (cells ∷ images) = (v ∷ cells) ∷ images

-- the part that was returned, followed by the rest of the row; a cell among the parts is readable
abbrev pub IsPartReturned : RowsCursor → RowPart → RowsCursor → Type 0
IsPartReturned old (part.Cell column cell) new = (remaining_row old ≡ (remaining_row new >>= λ x. Ok (with_cell (record { column = column; value = cell_value cell }) x.0, x.1))) × IsReadable cell × IsInRow new
IsPartReturned old part.NextImage new = (remaining_row old ≡ (remaining_row new >>= λ x. Ok ([] ∷ x.0, x.1))) × IsInRow new
IsPartReturned old part.EndOfRow new = (remaining_row old ≡ Ok ([] ∷ [], new.cells.rest.now)) × IsBetweenRows new new.cells.rest.now

-- The next part was returned, of the same plan; or all rows had been returned, and the state is unchanged; or the row can't be read, now and on later calls. While bytes of a row remain, either a part is returned or the row can't be read.
abbrev pub ReturnsPart : RowsCursor → Result (Option RowPart) RowsError → RowsCursor → Type 0
ReturnsPart old (Ok (Some x)) new = (IsBetweenRows old [] → ⊥) × IsPartReturned old x new × (remaining_parts new < remaining_parts old) × (new.plan ≡ old.plan)
ReturnsPart old (Ok None) new = IsBetweenRows old [] × (new ≡ old)
ReturnsPart old (Err e) new = (IsBetweenRows old [] → ⊥) × (remaining_row old ≡ Err e) × (remaining_row new ≡ Err e) × (IsBetweenRows new [] → ⊥) × (new.plan ≡ old.plan)

-- the row that the bytes begin with was begun
pub record BeginsRow (old new : RowsCursor) : Type 0 where
  pub stage : new.stage ≡ First
  pub left : remaining_row new ≡ remaining_row old
  pub parts : remaining_parts new ≡ remaining_parts old
  pub plan : new.plan ≡ old.plan

-- the end of an image was passed; or what follows can't be read, and the state is unchanged
abbrev pub EndsImage : RowsCursor → Result RowPart RowsError → RowsCursor → Type 0
EndsImage old (Ok x) new = IsPartReturned old x new × (remaining_parts new < remaining_parts old) × (new.plan ≡ old.plan)
EndsImage old (Err e) new = (remaining_row old ≡ Err e) × (new ≡ old)
