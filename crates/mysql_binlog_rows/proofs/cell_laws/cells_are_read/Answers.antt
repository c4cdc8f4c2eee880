use Rattle.std.proofs.Common.{ap, ◌∙◌}
use Rattle.rows_cells.specs.Cells.{cell_at}
use Rattle.rows_cells.proofs.CellLemmas.{cell-is, cell-here}
use Rattle.mysql_binlog_rows.proofs.cell_laws.cells_are_read.Goals as goal

pub returns : goal.returns
returns c = λ format v bytes rest. (λ h. cell-is format bytes v rest h, λ h. ap (cell_at format) h.1 ∙ cell-here format v h.0 rest h.2)
