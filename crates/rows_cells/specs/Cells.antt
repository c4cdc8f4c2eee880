-- The encoding of one cell: which bytes encode which value, and the cell that bytes begin with (MySQL's source, libs/mysql/binlog/event/rows_event.h, the table of column types).
use Rattle.std.specs.Prelude.{◌≡◌, ⊤, ◌<◌, ◌++◌, ◌⊎◌, ℕ, List, length}
use Rattle.std.specs.declared.result.Result.TheVariants.{Ok, Err}
use Rattle.wire_buf.specs.Numbers.{IsLittle}
use Rattle.rows_errors.specs.Readings.{Reading, ◌>>=◌}
use Rattle.rows_cells.specs.declared.format.CellFormat.{CellFormat}
use Rattle.rows_cells.specs.CellFields.{at_width, counted_at}
use Rattle.rows_cells.specs.CellSizes.{Size, exactly, after_length, unreadable, cell_size}
use Rattle.rows_cells.specs.CellValues.{CellValue, content_value}

-- content of that size, after its length field if it has one
pub data IsCellContent : Size → List ℕ → List ℕ → Type 0 where
  plain : {n : ℕ} {content : List ℕ} → length content ≡ n → IsCellContent (exactly n) content content
  sized : {w : ℕ} {content size : List ℕ} → IsLittle w (length content) size → IsCellContent (after_length w) content (size ++ content)

-- the bytes encode a value other than NULL
pub record IsCell (format : CellFormat) (v : CellValue) (bytes : List ℕ) : Type 0 where
  pub content : List ℕ
  pub content_is : IsCellContent (cell_size format) content bytes
  pub value_is : content_value format content ≡ Ok v

-- the content has that many bytes
abbrev pub IsSized : Size → List ℕ → Type 0
IsSized (exactly n) content = length content ≡ n
IsSized (after_length w) content = ⊤
IsSized (unreadable e) content = ⊥

-- the content of the cell that the bytes begin with, and the bytes after the cell
abbrev pub content_at : Size → List ℕ → Reading (List ℕ × List ℕ)
content_at (exactly n) bytes = at_width n bytes
content_at (after_length w) bytes = counted_at w bytes
content_at (unreadable e) bytes = Err e

-- the value of the cell that the bytes begin with, and the bytes after it; or the error. This computes what `IsCell` states, as the law `cells_are_read` says.
unfoldable pub cell_at : CellFormat → List ℕ → Reading (CellValue × List ℕ)
cell_at format bytes = do
  content ← content_at (cell_size format) bytes
  value ← content_value format content.0
  Ok (value, content.1)

-- the bytes don't begin with a one-byte length, at least 16 bytes after it, and a complete cell of at most 16 bytes
abbrev pub LacksShortString : List ℕ → Type 0
LacksShortString bytes = (content rest : List ℕ) → counted_at 1 bytes ≡ Ok (content, rest) → (16 < length content) ⊎ (length bytes < 17)
