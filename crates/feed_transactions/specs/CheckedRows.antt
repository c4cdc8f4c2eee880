-- The result of checking that rows can be read and printed.
use Rattle.std.specs.Prelude.{◌≡◌, ◌⊎◌, ℕ, suc, Bool, true, false, List, [], length, Option, Some, Ok, Err}
use Rattle.rows_errors.specs.declared.fault.RowsError.{RowsError}
use Rattle.rows_errors.specs.declared.fault.RowsError.TheVariants.{Decimal}
use Rattle.rows_jsonb.specs.JsonParsing.{Parses}
use Rattle.rows_cells.specs.CellValues.{CellValue}
use Rattle.rows_cells.specs.EventRows.{row_at}
use Rattle.rows_jsonb.specs.Items.{items_at}
use Rattle.rows_cells.specs.CellViews.{cell_value}
use Rattle.rows_cells.specs.Images.{ImageShape, field_at}
use Rattle.rows_cells.specs.ImageViews.{remaining_cells, cells_count, ReturnsCell}
use Rattle.rows_cells.specs.declared.cell.CellRef.{CellRef}
use Rattle.rows_cells.specs.declared.cell.CellRef.TheVariants as ref
use Rattle.rows_cells.specs.declared.format.CellFormat.{CellFormat}
use Rattle.rows_cells.specs.declared.image.ImageCells.{ImageCells}
use Rattle.feed_text.specs.CellText.{cell_text, cell_value_text, PacksNone}
use Rattle.feed_text.specs.ImageText.{AppendsFields}
use Rattle.feed_checks.specs.declared.verdict.Verdict.{Verdict}
use Rattle.feed_transactions.specs.RowLines.{row_verdict, PutsImage, PutsImages, rows_texts_at}

-- the cell is a JSON document, or changes of one
abbrev pub is_document : CellRef → Bool
is_document (ref.Json b) = true
is_document (ref.JsonDiffs b) = true
is_document cell = false

-- the cell at the start of the bytes has a text, and is followed by the rest
pub record HasCellText (is_null : Bool) (format : CellFormat) (bytes rest : List ℕ) : Type 0 where
  pub value : CellValue
  pub text : List ℕ
  pub read : field_at is_null format bytes ≡ Ok (value, rest)
  pub is : cell_value_text value ≡ Ok text

-- some cells were consumed, and have a text
abbrev pub Passes : ImageCells → ImageCells → Type 0
Passes old new = (text : List ℕ) × AppendsFields old new [] text

-- the next cell was consumed, and has a text; or there was none
abbrev pub PassesNext : ImageCells → Bool → ImageCells → Type 0
PassesNext old true new = Passes old new × (cells_count old ≡ suc (cells_count new))
PassesNext old false new = (remaining_cells old ≡ Ok ([], old.rest.now)) × (new ≡ old)

-- why a document has no text
abbrev pub IsDocumentError : CellRef → ℕ → RowsError → Type 0
IsDocumentError cell column e = ((e ≡ Decimal) × PacksNone cell) ⊎ Parses (λ t. t) (Err e) (cell_text column (cell_value cell))

-- the next cell is a document without a text
pub record HasNoText (cells : ImageCells) (e : RowsError) : Type 0 where
  pub column : ℕ
  pub cell : CellRef
  pub after : ImageCells
  pub read : (let found : Option (ℕ × CellRef) = Some (column, cell) in ReturnsCell cells (Ok found) after)
  pub why : IsDocumentError cell column e

-- why the next cell has no text: it can't be read, or is such a document
abbrev pub IsNextError : ImageCells → Verdict → Type 0
IsNextError cells v = (e : RowsError) × (v ≡ row_verdict e) × ((remaining_cells cells ≡ Err e) ⊎ HasNoText cells e)

-- the image at the start of the bytes has a text, and is followed by the rest
abbrev pub HasImageText : ImageShape → List ℕ → List ℕ → Type 0
HasImageText s bytes rest = (text : List ℕ) × PutsImage s bytes rest [] text

-- the same for images in sequence
abbrev pub HasImageTexts : List ImageShape → List ℕ → List ℕ → Type 0
HasImageTexts shapes bytes rest = (text : List ℕ) × PutsImages shapes bytes rest [] text

-- all rows have texts
abbrev pub HaveTexts : List ImageShape → List ℕ → Type 0
HaveTexts shapes bytes = (texts : List (List (List ℕ))) × (rows_texts_at shapes bytes ≡ Some texts)

-- the number of rows
abbrev pub rows_count : List ImageShape → List ℕ → ℕ
rows_count shapes bytes = length (items_at (row_at shapes) bytes).items
