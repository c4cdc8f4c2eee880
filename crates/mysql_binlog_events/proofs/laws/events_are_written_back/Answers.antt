use Rattle.mysql_binlog_events.proofs.WrittenAgainLemmas.{written_back}
use Rattle.mysql_binlog_events.proofs.laws.events_are_written_back.Goals as goal

pub returns : goal.returns
returns g c = λ checksum. written_back _
