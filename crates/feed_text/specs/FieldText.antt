-- The text of the cell at the start of the bytes, if it is short.
use Rattle.std.specs.Prelude.{◌≡◌, ⊤, ◌≤◌, ◌+◌, ℕ, Bool, false, List, ◌++◌, take, Option, Some, None}
use Rattle.std.specs.Borrow.{Bor}
use Rattle.std.specs.declared.result.Result.TheVariants.{Ok}
use Rattle.rows_cells.specs.declared.format.CellFormat.{CellFormat}
use Rattle.rows_cells.specs.CellValues.{CellValue}
use Rattle.rows_cells.specs.Images.{field_at}
use Rattle.feed_text.specs.CellText.{cell_value_text}

-- the text of the value was written, up to the offset `end`, and `rest` are the bytes after the cell
pub record WritesField (is_null : Bool) (format : CellFormat) (bytes : List ℕ) (at : ℕ) (old new : List ℕ) (end : ℕ) (rest : List ℕ) : Type 0 where
  pub value : CellValue
  pub text : List ℕ
  pub read : field_at is_null format bytes ≡ Ok (value, rest)
  pub is : cell_value_text value ≡ Ok text
  pub most : end ≤ at + 194
  pub written : take end new ≡ take at old ++ text

-- the same; or the text before `at` is unchanged, and nothing more is stated
abbrev pub WritesOrNone : Bool → CellFormat → List ℕ → ℕ → List ℕ → List ℕ → Option (ℕ × Bor (List ℕ)) → Type 0
WritesOrNone is_null format bytes at old new (Some r) = WritesField is_null format bytes at old new r.0 r.1.now
WritesOrNone is_null format bytes at old new None = take at new ≡ take at old

-- the text of the cell that `bytes` begin with was written, up to the offset, and `rest` are the bytes after the cell; or the text before `at` is unchanged, and nothing more is stated
abbrev pub WritesNext : CellFormat → List ℕ → List ℕ → ℕ → List ℕ → List ℕ → Option ℕ → Type 0
WritesNext format bytes rest at old new (Some end) = WritesField false format bytes at old new end rest
WritesNext format bytes rest at old new None = take at new ≡ take at old

-- the offset and the bytes are those that were returned, if any
abbrev pub Advances : Option (ℕ × Bor (List ℕ)) → List ℕ → Option ℕ → Type 0
Advances (Some r) rest (Some end) = (end ≡ r.0) × (rest ≡ r.1.now)
Advances (Some r) rest None = ⊥
Advances None rest (Some end) = ⊥
Advances None rest None = ⊤

-- the text of the value was written, up to the offset `end`
pub record WritesValue (value : CellValue) (at : ℕ) (old new : List ℕ) (end : ℕ) : Type 0 where
  pub text : List ℕ
  pub is : cell_value_text value ≡ Ok text
  pub most : end ≤ at + 76
  pub written : take end new ≡ take at old ++ text
