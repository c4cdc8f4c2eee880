use Rattle.rows_values.proofs.NumericLemmas.{packs_in_order}
use Rattle.mysql_binlog_rows.proofs.value_laws.numbers_in_order.Goals as goal

pub returns : goal.returns
returns c = packs_in_order
