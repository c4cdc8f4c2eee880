-- The rows of an event, read one by one (MySQL Internals, "Rows_event").
use Rattle.std.specs.Prelude.{◌≡◌, ℕ, Bool, true, false, List, []}
use Rattle.std.specs.declared.result.Result.TheVariants.{Ok}
use Rattle.rows_cells.specs.EventRows.{row_at}
use Rattle.rows_cells.specs.Images.{ColumnValue}
use Rattle.rows_cells.specs.RowViews.{IsBetweenRows, row_shape}
use Rattle.rows_cells.specs.declared.rows.RowsCursor.{RowsCursor}

-- the row that bytes begin with was read, and the bytes after it remain
pub record ReadsRow (bytes : List ℕ) (old new : RowsCursor) : Type 0 where
  pub row : List (List ColumnValue)
  pub rest : List ℕ
  pub read : row_at (row_shape old.plan) bytes ≡ Ok (row, rest)
  pub after : IsBetweenRows new rest
  pub plan : new.plan ≡ old.plan

-- a row was read; or there was none, and the cursor is unchanged
abbrev pub ReadsNext : List ℕ → RowsCursor → Bool → RowsCursor → Type 0
ReadsNext bytes old true new = ReadsRow bytes old new
ReadsNext bytes old false new = (bytes ≡ []) × (new ≡ old)
