use Rattle.std.proofs.Common.{refl, sym}
use Rattle.rows_cells.specs.CellValues.{null}
use Rattle.rows_cells.specs.CellViews.{cell_value}
use Rattle.library_log.proofs.cells.put_cell.Goals as goal

pub returns-then-field-clause-read : goal.returns-then-field-clause-read
returns-then-field-clause-read c = (null, rw c.if-field.true refl)

pub returns-in_default-clause-read : goal.returns-in_default-clause-read
returns-in_default-clause-read c = (cell_value c.in_ok-cell.cell, rw c.if-field.false (sym c.in_ok-cell.ensures.value))
