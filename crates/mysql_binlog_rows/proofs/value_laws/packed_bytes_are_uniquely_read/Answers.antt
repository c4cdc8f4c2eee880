use Rattle.rows_values.proofs.ReadBackLemmas.{packed_once, unpacked_once}
use Rattle.mysql_binlog_rows.proofs.value_laws.packed_bytes_are_uniquely_read.Goals as goal

pub returns-clause-value : goal.returns-clause-value
returns-clause-value c = packed_once

pub returns-clause-made : goal.returns-clause-made
returns-clause-made c = unpacked_once
