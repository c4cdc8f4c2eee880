use Rattle.mysql_binlog_events.proofs.WrittenAgainLemmas.{read_with_sum}
use Rattle.mysql_binlog_events.proofs.laws.written_events_are_read_again.Goals as goal

pub returns : goal.returns
returns g c = λ checksum. read_with_sum _
