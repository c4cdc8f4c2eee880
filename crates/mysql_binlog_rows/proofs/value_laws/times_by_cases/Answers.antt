use Rattle.mysql_binlog_rows.proofs.TimeCaseLemmas.{time-from_zero, time-below_zero}
use Rattle.mysql_binlog_rows.proofs.value_laws.times_by_cases.Goals as goal

pub returns-clause-from_zero : goal.returns-clause-from_zero
returns-clause-from_zero c = λ n bytes few are which. time-from_zero bytes are n few which

pub returns-clause-below_zero : goal.returns-clause-below_zero
returns-clause-below_zero c = λ n bytes few are low some. time-below_zero bytes are n few low some
