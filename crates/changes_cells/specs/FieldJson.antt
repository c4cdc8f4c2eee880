-- What the functions that write the JSON of a cell do: the cell is the one that the bytes begin with.
use Rattle.std.specs.Prelude.{◌≡◌, ⊤, ◌≤◌, ◌<◌, ◌+◌, ◌^◌, ◌⊎◌, ℕ, ℤ, pos, Bool, false, List, ◌++◌, take, length, Option, Some, None}
use Rattle.std.specs.Borrow.{Bor}
use Rattle.std.specs.declared.result.Result.{Result}
use Rattle.std.specs.declared.result.Result.TheVariants.{Ok, Err}
use Rattle.changes_tables.specs.ShownColumns.{ColumnView}
use Rattle.changes_writers.specs.FloatTexts.{AppendsSuch}
use Rattle.feed_text.specs.CellText.{cell_text}
use Rattle.rows_cells.specs.declared.format.CellFormat.{CellFormat}
use Rattle.rows_cells.specs.declared.format.CellFormat.TheVariants as format
use Rattle.rows_cells.specs.Cells.{cell_at}
use Rattle.rows_cells.specs.CellValues.{CellValue, int, uint}
use Rattle.rows_cells.specs.Images.{field_at}
use Rattle.rows_errors.specs.declared.fault.RowsError.{RowsError}
use Rattle.rows_errors.specs.declared.fault.RowsError.TheVariants.{Memory}
use Rattle.rows_jsonb.specs.JsonParsing.{Parses}
use Rattle.changes_cells.specs.CellJson.{IsCellJson}

-- such a text was written, up to the offset `end`
pub record WritesSuch (IsText : List ℕ → Type 0) (at : ℕ) (old new : List ℕ) (end : ℕ) : Type 0 where
  pub text : List ℕ
  pub such : IsText text
  pub most : end ≤ at + 400
  pub written : take end new ≡ take at old ++ text

-- the same; or the text before `at` is unchanged, and nothing more is stated
abbrev pub MayWriteSuch : (List ℕ → Type 0) → ℕ → List ℕ → List ℕ → Option ℕ → Type 0
MayWriteSuch IsText at old new (Some end) = WritesSuch IsText at old new end
MayWriteSuch IsText at old new None = take at new ≡ take at old

-- the JSON of the cell was written, up to the offset `end`, and `rest` are the bytes after the cell
pub record WritesCell (c : ColumnView) (is_null : Bool) (f : CellFormat) (bytes : List ℕ) (at : ℕ) (old new : List ℕ) (end : ℕ) (rest : List ℕ) : Type 0 where
  pub value : CellValue
  pub read : field_at is_null f bytes ≡ Ok (value, rest)
  pub text : WritesSuch (IsCellJson c f value) at old new end

-- the same; or the text before `at` is unchanged, and nothing more is stated
abbrev pub MayWriteCell : ColumnView → Bool → CellFormat → List ℕ → ℕ → List ℕ → List ℕ → Option (ℕ × Bor (List ℕ)) → Type 0
MayWriteCell c is_null f bytes at old new (Some r) = WritesCell c is_null f bytes at old new r.0 r.1.now
MayWriteCell c is_null f bytes at old new None = take at new ≡ take at old

-- the value is this integer, signed or not
abbrev pub IsInteger : ℤ → CellValue → Type 0
IsInteger z (int y) = y ≡ z
IsInteger z (uint n) = pos n ≡ z
IsInteger z _ = ⊥

-- the bytes begin with a cell of this integer, and `rest` are the bytes after it
pub record IsIntegerAt (f : CellFormat) (bytes : List ℕ) (z : ℤ) (rest : List ℕ) : Type 0 where
  pub value : CellValue
  pub read : cell_at f bytes ≡ Ok (value, rest)
  pub is : IsInteger z value

-- fewer than eight bytes, or they don't begin with an integer below 2^63
abbrev pub LacksInteger : CellFormat → List ℕ → Type 0
LacksInteger f bytes = (z : ℤ) (rest : List ℕ) → IsIntegerAt f bytes z rest → (length bytes < 8) ⊎ ((n : ℕ) × (z ≡ pos n) × (2 ^ 63 ≤ n))

-- the JSON of the cell was written, whatever the column; or the cell can't be read, for this error
abbrev pub WritesOrFails : CellFormat → List ℕ → ℕ → List ℕ → List ℕ → Result (ℕ × Bor (List ℕ)) RowsError → Type 0
WritesOrFails f bytes at old new (Ok r) = (c : ColumnView) → WritesCell c false f bytes at old new r.0 r.1.now
WritesOrFails f bytes at old new (Err e) = (take at new ≡ take at old) × (cell_at f bytes ≡ Err e)

-- a format whose texts have a maximum length
abbrev pub IsFixed : CellFormat → Type 0
IsFixed (format.Signed w) = ⊥
IsFixed (format.Unsigned w) = ⊥
IsFixed (format.Counted w) = ⊥
IsFixed (format.Plain n) = ⊥
IsFixed format.Json = ⊥
IsFixed format.JsonDiffs = ⊥
IsFixed _ = ⊤

-- the JSON of the cell that `bytes` begin with was written, up to the offset, and `rest` are the bytes after the cell; or the text before `at` is unchanged, and nothing more is stated
abbrev pub MayWriteNext : ColumnView → CellFormat → List ℕ → List ℕ → ℕ → List ℕ → List ℕ → Option ℕ → Type 0
MayWriteNext c f bytes rest at old new (Some end) = WritesCell c false f bytes at old new end rest
MayWriteNext c f bytes rest at old new None = take at new ≡ take at old

-- the JSON of the cell was appended, and `rest` are the bytes after the cell
pub record AppendsCell (c : ColumnView) (is_null : Bool) (f : CellFormat) (bytes old new rest : List ℕ) : Type 0 where
  pub value : CellValue
  pub read : field_at is_null f bytes ≡ Ok (value, rest)
  pub text : AppendsSuch (IsCellJson c f value) old new

-- out of memory; or the cell can't be read; or it has no text in the feed either
abbrev pub IsFieldError : RowsError → Bool → CellFormat → List ℕ → Type 0
IsFieldError e is_null f bytes =
    (e ≡ Memory) ⊎ ((field_at is_null f bytes ≡ Err e)
    ⊎ ((v : CellValue) × (rest : List ℕ) × (field_at is_null f bytes ≡ Ok (v, rest)) × ((column : ℕ) → Parses (λ t. t) (Err e) (cell_text column v))))
