-- The image of a row (MySQL Internals: Rows_event): the part shared by its cells, a null bit for each of the image's columns, and the cells that aren't NULL.
use Rattle.std.specs.Prelude.{◌≡◌, ℕ, ◌+◌, ◌/◌, ◌%◌, ◌^◌, Bool, true, false, List, [], ◌∷◌, ◌++◌, length, slice_index, Option, Some, None, ◌==◌, ◌||◌, if◌then◌else◌}
use Rattle.std.specs.declared.result.Result.TheVariants.{Ok, Err}
use Rattle.wire_buf.specs.Numbers.{IsLenenc}
use Rattle.wire_buf.specs.LenencSplit.{split_lenenc}
use Rattle.rows_errors.specs.declared.fault.RowsError.{RowsError}
use Rattle.rows_errors.specs.declared.fault.RowsError.TheVariants.{EndOfBody, UnknownNumber}
use Rattle.rows_errors.specs.Readings.{Reading, ◌>>=◌}
use Rattle.rows_cells.specs.declared.format.CellFormat.{CellFormat}
use Rattle.rows_cells.specs.declared.image.ImageColumn.{ImageColumn}
use Rattle.rows_cells.specs.ColumnFormats.{format_by}
use Rattle.rows_cells.specs.CellFields.{at_width}
use Rattle.rows_cells.specs.CellValues.{CellValue, null}
use Rattle.rows_cells.specs.Cells.{IsCell, cell_at}

-- bit i of bytes, from the lowest bit of the first byte
abbrev pub bit : List ℕ → ℕ → Bool
bit bytes i = (slice_index bytes (i / 8) / 2 ^ (i % 8)) % 2 == 1

-- a column's index in the table, and its value
pub record ColumnValue : Type 0 where
  pub column : ℕ
  pub value : CellValue

-- the columns in an image; `json_columns` only if the image may have JSON diffs: the number of JSON columns in the table
pub record ImageShape : Type 0 where
  pub columns : List ImageColumn
  pub json_columns : Option ℕ

-- The bytes before the null bits, and the partial bits in them. Most images have none. The after image of a PARTIAL_UPDATE_ROWS_EVENT has options as a length-encoded integer and, if these are odd, a bit for each JSON column of the table.
pub data IsShared : Option ℕ → List ℕ → List ℕ → Type 0 where
  nothing : IsShared None [] []
  whole : {j options : ℕ} {bytes : List ℕ} → IsLenenc options bytes → options % 2 ≡ 0 → IsShared (Some j) [] bytes
  partial : {j options : ℕ} {bytes bits : List ℕ} → IsLenenc options bytes → options % 2 ≡ 1 → length bits ≡ (j + 7) / 8 → IsShared (Some j) bits (bytes ++ bits)

-- the format of a column's cell in an image: diffs, if the column's bit of partial updates is set
abbrev pub format_in : List ℕ → ImageColumn → CellFormat
format_in bits c = format_by (bit bits c.json_column) c.format

-- NULL takes no bytes
abbrev pub IsField : Bool → CellFormat → CellValue → List ℕ → Type 0
IsField true format v bytes = (v ≡ null) × (bytes ≡ [])
IsField false format v bytes = IsCell format v bytes

-- consecutive cells of these columns; the first of them has null bit k
abbrev pub AreCells : List ℕ → List ℕ → ℕ → List ImageColumn → List ColumnValue → List ℕ → Type 0
AreCells bits nulls k [] [] bytes = bytes ≡ []
AreCells bits nulls k (c ∷ cs) (v ∷ vs) bytes =
    (own : List ℕ) × (more : List ℕ) × (bytes ≡ own ++ more) × (v.column ≡ c.column)
    × IsField (bit nulls k) (format_in bits c) v.value own × AreCells bits nulls (k + 1) cs vs more
AreCells bits nulls k [] (v ∷ vs) bytes = ⊥
AreCells bits nulls k (c ∷ cs) [] bytes = ⊥

-- an image: the shared part, a null bit for each of its columns, padded to whole bytes, and the cells
pub record IsImage (shape : ImageShape) (row : List ColumnValue) (bytes : List ℕ) : Type 0 where
  pub bits : List ℕ
  pub shared : List ℕ
  pub nulls : List ℕ
  pub cells : List ℕ
  pub parts : bytes ≡ shared ++ (nulls ++ cells)
  pub shared_is : IsShared shape.json_columns bits shared
  pub nulls_are : length nulls ≡ (length shape.columns + 7) / 8
  pub cells_are : AreCells bits nulls 0 shape.columns row cells

-- The rest of this file computes what `IsImage` states, as the law `images_are_read` says: a value and the bytes after it, the cells of these columns, an image.

-- the cell that bytes begin with, or NULL, and the bytes after it
abbrev pub field_at : Bool → CellFormat → List ℕ → Reading (CellValue × List ℕ)
field_at true format bytes = Ok (null, bytes)
field_at false format bytes = cell_at format bytes

-- the cell that bytes begin with is the same whatever the partial bit of its column is
abbrev pub IsReadAlike : Bool → CellFormat → Type 0
IsReadAlike is_null f = (b : Bool) (bytes : List ℕ) → field_at is_null f bytes ≡ field_at is_null (format_by b f) bytes

-- the cells of these columns, in order; `nulls` has a bit for each, from bit k on
unfoldable pub cells_at : List ℕ → List ℕ → ℕ → List ImageColumn → List ℕ → Reading (List ColumnValue × List ℕ)
cells_at bits nulls k [] bytes = Ok ([], bytes)
cells_at bits nulls k (c ∷ cs) bytes = do
  first ← field_at (bit nulls k) (format_in bits c) bytes
  more ← cells_at bits nulls (k + 1) cs first.1
  Ok (record { column = c.column; value = first.0 } ∷ more.0, more.1)

-- why there is no length-encoded integer: none begins with 251 or 255; otherwise bytes are missing
abbrev pub lenenc_error : List ℕ → RowsError
lenenc_error [] = EndOfBody
lenenc_error (b ∷ bytes) = if (b == 251) || (b == 255) then UnknownNumber else EndOfBody

-- the integer that was split off, or why there is none
abbrev pub lenenc_of : List ℕ → Option (ℕ × List ℕ) → Reading (ℕ × List ℕ)
lenenc_of bytes None = Err (lenenc_error bytes)
lenenc_of bytes (Some x) = Ok x

-- the length-encoded integer that bytes begin with, and the bytes after it
unfoldable pub lenenc_at : List ℕ → Reading (ℕ × List ℕ)
lenenc_at bytes = lenenc_of bytes (split_lenenc bytes)

-- the bits of partial updates, if the options have them: one for each of j JSON columns
abbrev pub bits_at : ℕ → ℕ × List ℕ → Reading (List ℕ × List ℕ)
bits_at j options = if options.0 % 2 == 1 then at_width ((j + 7) / 8) options.1 else Ok ([], options.1)

-- value options and partial bits before the null bits; nothing if the image can't have JSON diffs
abbrev pub shared_at : Option ℕ → List ℕ → Reading (List ℕ × List ℕ)
shared_at None bytes = Ok ([], bytes)
shared_at (Some j) bytes = lenenc_at bytes >>= bits_at j

-- the image of this shape that bytes begin with, and the bytes after it
unfoldable pub image_at : ImageShape → List ℕ → Reading (List ColumnValue × List ℕ)
image_at shape bytes = do
  bits ← shared_at shape.json_columns bytes
  nulls ← at_width ((length shape.columns + 7) / 8) bits.1
  cells_at bits.0 nulls.0 0 shape.columns nulls.1
