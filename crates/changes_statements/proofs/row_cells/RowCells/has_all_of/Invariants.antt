use Rattle.std.proofs.Common.{ℕ, ◌<◌}
use Rattle.changes_statements.specs.RowsOfCells.{IsMissing, cells_in}
use Rattle.changes_statements.proofs.row_cells.RowCells.has_all_of.Given as goal

-- none of the columns so far is missing
abbrev pub invariant-loop-column : goal.invariant-loop-column
invariant-loop-column l = (k : ℕ) → k < l.column → IsMissing (cells_in l.self) (cells_in l.other) k → ⊥
