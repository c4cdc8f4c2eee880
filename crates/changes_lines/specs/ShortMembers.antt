-- Rows of one image whose cells are all short.
use Rattle.std.specs.Prelude.{◌≡◌, ◌≤◌, ◌+◌, ◌*◌, ◌<◌, ℕ, List, [], ◌∷◌, ◌++◌, length, take, Option, Some, None}
use Rattle.std.specs.Borrow.{Bor}
use Rattle.rows_cells.specs.Images.{ImageShape}
use Rattle.rows_cells.specs.ImageViews.{cells_count, image_shape}
use Rattle.rows_cells.specs.declared.image.ImageCells.{ImageCells}
use Rattle.feed_transactions.specs.RowLines.{IsAppendedSoFar}
use Rattle.changes_tables.specs.ShownColumns.{ColumnView}
use Rattle.changes_lines.specs.RowJson.{CellJson, members_json}
use Rattle.changes_lines.specs.ReadCells.{GivesJson}
use Rattle.changes_lines.specs.TableColumns.{columns_in}
use Rattle.changes_lines.specs.TextLists.{ended}
use Rattle.changes_lines.specs.ReadRows.{ReadsRow}
use Rattle.changes_lines.specs.declared.short_rows.ShortRow.{ShortRow}

-- the object of all cells was written but for its end, up to the offset `end`; `rest` are the bytes after the cells
pub record WritesMembers (table : List ColumnView) (cells : ImageCells) (at : ℕ) (old new : List ℕ) (end : ℕ) (rest : List ℕ) : Type 0 where
  pub json : List CellJson
  pub left : ImageCells
  pub gives : GivesJson table cells left json
  pub none_left : cells_count left ≡ 0
  pub rest_is : rest ≡ left.rest.now
  pub most : end ≤ at + 433 * cells_count cells
  pub written : take end new ≡ take at old ++ members_json table json

-- the same; or the text before `at` is unchanged, and nothing more is stated
abbrev pub MayWriteMembers : List ColumnView → ImageCells → ℕ → List ℕ → List ℕ → Option (ℕ × Bor (List ℕ)) → Type 0
MayWriteMembers table cells at old new (Some r) = WritesMembers table cells at old new r.0 r.1.now
MayWriteMembers table cells at old new None = take at new ≡ take at old

-- the row that the bytes begin with takes some of them, and the text is its JSON with the end of its line; or nothing was written
abbrev pub MayWriteRow : ShortRow → List ℕ → Option (Bor (List ℕ)) → Type 0
MayWriteRow w text None = text ≡ []
MayWriteRow w text (Some rest) = (json : List ℕ) × (text ≡ ended json) × ReadsRow (columns_in w.columns) (image_shape w.plan ∷ []) w.bytes.now rest.now json × (length rest.now < length w.bytes.now)

-- the rows before these bytes have texts
abbrev pub HaveTextsSoFar : List ImageShape → List ℕ → List ℕ → Type 0
HaveTextsSoFar shapes bytes rest = (now : List ℕ) × IsAppendedSoFar shapes [] bytes rest [] now
