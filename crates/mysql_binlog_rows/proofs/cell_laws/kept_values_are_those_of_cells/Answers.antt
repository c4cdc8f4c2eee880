use Rattle.rows_cells.proofs.KeptLemmas.{kept_of, one_kept}
use Rattle.mysql_binlog_rows.proofs.cell_laws.kept_values_are_those_of_cells.Goals as goal

pub returns-clause-kept : goal.returns-clause-kept
returns-clause-kept c = kept_of

pub returns-clause-only : goal.returns-clause-only
returns-clause-only c = one_kept
