use Rattle.rows_cells.proofs.CellLemmas.{one_cell}
use Rattle.mysql_binlog_rows.proofs.cell_laws.no_cell_is_prefix_of_another.Goals as goal

pub returns : goal.returns
returns c = one_cell
