use Rattle.rows_values.proofs.EqualLemmas.{columns_decide, times_decide}
use Rattle.mysql_binlog_rows.proofs.value_laws.equal_columns_and_times_are_the_same.Goals as goal

pub returns-clause-columns : goal.returns-clause-columns
returns-clause-columns c = columns_decide

pub returns-clause-times : goal.returns-clause-times
returns-clause-times c = times_decide
