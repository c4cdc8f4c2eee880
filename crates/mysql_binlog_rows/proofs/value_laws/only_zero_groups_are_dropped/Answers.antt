use Rattle.rows_values.proofs.ZeroLemmas.{groups_split}
use Rattle.mysql_binlog_rows.proofs.value_laws.only_zero_groups_are_dropped.Goals as goal

pub returns : goal.returns
returns c = groups_split
