use Rattle.rows_cells.proofs.RowLemmas.{one_image}
use Rattle.mysql_binlog_rows.proofs.cell_laws.no_image_is_prefix_of_another.Goals as goal

pub returns : goal.returns
returns c = one_image
