-- The text of the cells of a row image.
use Rattle.std.specs.Prelude.{◌≡◌, ◌≤◌, ◌⊎◌, ℕ, List, [], ◌∷◌, ◌++◌, length, take}
use Rattle.std.specs.declared.result.Result.TheVariants.{Ok, Err}
use Rattle.rows_errors.specs.declared.fault.RowsError.{RowsError}
use Rattle.rows_errors.specs.declared.fault.RowsError.TheVariants.{Memory}
use Rattle.rows_errors.specs.Readings.{Reading, ◌>>=◌}
use Rattle.rows_jsonb.specs.JsonParsing.{Parses}
use Rattle.rows_cells.specs.declared.image.ImageCells.{ImageCells}
use Rattle.rows_cells.specs.Images.{ColumnValue}
use Rattle.rows_cells.specs.ImageViews.{remaining_cells, cells_count}
use Rattle.feed_text.specs.CellText.{cell_text}

-- the concatenated texts of cells
unfoldable pub cells_text : List ColumnValue → Reading (List ℕ)
cells_text [] = Ok []
cells_text (v ∷ vs) = do
  first ← cell_text v.column v.value
  more ← cells_text vs
  Ok (first ++ more)

-- cells, and the bytes after them
abbrev pub Cells : Type 0
Cells = List ColumnValue × List ℕ

-- these cells, and then the remaining ones
abbrev pub cells_then : List ColumnValue → Reading Cells → Reading Cells
cells_then given left = left >>= λ x. Ok (given ++ x.0, x.1)

-- some cells were consumed and have this text, and the others remain
pub record Gives (old new : ImageCells) (text : List ℕ) : Type 0 where
  pub given : List ColumnValue
  pub read : remaining_cells old ≡ cells_then given (remaining_cells new)
  pub is : cells_text given ≡ Ok text
  pub fewer : cells_count new ≤ cells_count old

-- the text of the consumed cells was written, up to the offset `end`
pub record WritesFields (old new : ImageCells) (at : ℕ) (before after : List ℕ) (end : ℕ) : Type 0 where
  pub text : List ℕ
  pub gives : Gives old new text
  pub within : end ≤ length after
  pub written : take end after ≡ take at before ++ text

-- the text of the consumed cells was appended
pub record AppendsFields (old new : ImageCells) (before after : List ℕ) : Type 0 where
  pub text : List ℕ
  pub gives : Gives old new text
  pub appended : after ≡ before ++ text

-- all remaining cells were consumed, and their text was appended
pub record PutsCells (old new : ImageCells) (before after : List ℕ) : Type 0 where
  pub given : List ColumnValue
  pub text : List ℕ
  pub read : remaining_cells old ≡ Ok (given, new.rest.now)
  pub is : cells_text given ≡ Ok text
  pub appended : after ≡ before ++ text
  pub none_left : remaining_cells new ≡ Ok ([], new.rest.now)
  pub count : cells_count new ≡ 0

-- Why the remaining cells have no text: out of memory; or the first of them can't be read; or it is a JSON document that can't be parsed, for this error.
abbrev pub StopsAt : RowsError → Reading Cells → Type 0
StopsAt e left =
    (e ≡ Memory) ⊎ ((left ≡ Err e)
    ⊎ ((v : ColumnValue) × (more : Reading Cells) × (left ≡ cells_then (v ∷ []) more) × Parses (λ t. t) (Err e) (cell_text v.column v.value)))

-- the first few cells have a text, which was appended, and the others have none
pub record StopsWithin (e : RowsError) (cells : ImageCells) (before after : List ℕ) : Type 0 where
  pub given : List ColumnValue
  pub text : List ℕ
  pub left : Reading Cells
  pub read : remaining_cells cells ≡ cells_then given left
  pub is : cells_text given ≡ Ok text
  pub why : StopsAt e left
  pub appended : after ≡ before ++ text

-- the first few cells have a text, and the others have none; nothing was changed
pub record IsCellsError (e : RowsError) (old new : ImageCells) (before after : List ℕ) : Type 0 where
  pub given : List ColumnValue
  pub text : List ℕ
  pub left : Reading Cells
  pub read : remaining_cells old ≡ cells_then given left
  pub is : cells_text given ≡ Ok text
  pub why : StopsAt e left
  pub cells : new ≡ old
  pub unchanged : after ≡ before
