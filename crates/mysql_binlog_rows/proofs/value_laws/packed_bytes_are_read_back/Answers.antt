use Rattle.rows_values.proofs.OrderLemmas.{length-packed}
use Rattle.rows_values.proofs.ReadBackLemmas.{kept_all}
use Rattle.rows_values.proofs.UnpackedLemmas.{read_back}
use Rattle.mysql_binlog_rows.proofs.value_laws.packed_bytes_are_read_back.Goals as goal

pub returns-clause-size : goal.returns-clause-size
returns-clause-size c = length-packed

pub returns-clause-unpacked : goal.returns-clause-unpacked
returns-clause-unpacked c = read_back

pub returns-clause-kept : goal.returns-clause-kept
returns-clause-kept c = kept_all
