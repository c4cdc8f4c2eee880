use Rattle.std.proofs.Common.{ap, ◌∙◌}
use Rattle.rows_cells.specs.EventRows.{row_at}
use Rattle.rows_cells.proofs.RowLemmas.{row-is, row-here}
use Rattle.mysql_binlog_rows.proofs.cell_laws.rows_are_read.Goals as goal

pub returns : goal.returns
returns c = λ shapes row bytes rest. (
  (λ h. let b = row-is shapes bytes row rest h in (b.bytes, b.joined, b.is)),
  (λ h. ap (row_at shapes) h.1 ∙ row-here shapes row h.0 rest rest h.2),
)
