use Rattle.mysql_binlog_events.proofs.DataAgainLemmas.{data_same}
use Rattle.mysql_binlog_events.proofs.laws.read_data_are_the_same_again.Goals as goal

pub returns : goal.returns
returns c = data_same
