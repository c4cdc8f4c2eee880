use Rattle.std.proofs.Common.{◌≡◌, ◌<◌, ◌≤◌, ℕ, length}
use Rattle.changes_statements.specs.RowsOfCells.{cell_in, cell_or, cells_in}
use Rattle.changes_statements.proofs.row_cells.RowCells.fill_from.Given as goal

-- the columns so far are filled, and the others are as they were
abbrev pub invariant-loop-column : goal.invariant-loop-column
invariant-loop-column l = record {
  same_length : length (cells_in l.self) ≡ length (cells_in l.fn.self);
  filled : (k : ℕ) → k < l.column → cell_in (cells_in l.self) k ≡ cell_or (cell_in (cells_in l.fn.self) k) (cell_in (cells_in l.other) k);
  others : (k : ℕ) → l.column ≤ k → cell_in (cells_in l.self) k ≡ cell_in (cells_in l.fn.self) k;
}
