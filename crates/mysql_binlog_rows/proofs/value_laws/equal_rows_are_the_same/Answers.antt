use Rattle.rows_values.proofs.EqualLemmas.{rows_decide}
use Rattle.mysql_binlog_rows.proofs.value_laws.equal_rows_are_the_same.Goals as goal

pub returns : goal.returns
returns c = rows_decide
