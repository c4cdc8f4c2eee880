use Rattle.std.proofs.Common.{◌≡◌, drop, is_some}
use Rattle.std.specs.List.{list_all}
use Rattle.changes_statements.specs.RowsOfCells.{cells_in}
use Rattle.changes_statements.proofs.row_cells.RowCells.is_full.Given as goal

abbrev pub invariant-loop-cell : goal.invariant-loop-cell
invariant-loop-cell l = list_all is_some (drop l.cell-index (cells_in l.self)) ≡ list_all is_some (cells_in l.self)
