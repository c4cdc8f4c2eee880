use Rattle.mysql_binlog_rows.proofs.TimeCaseLemmas.{span-from_zero, span-below_zero, date-fields}
use Rattle.mysql_binlog_rows.proofs.value_laws.packed_fields_are_read_back.Goals as goal

pub returns-clause-span : goal.returns-clause-span
returns-clause-span c = span-from_zero

pub returns-clause-span_below_zero : goal.returns-clause-span_below_zero
returns-clause-span_below_zero c = span-below_zero

pub returns-clause-date : goal.returns-clause-date
returns-clause-date c = date-fields
