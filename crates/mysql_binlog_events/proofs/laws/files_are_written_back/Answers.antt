use Rattle.mysql_binlog_events.proofs.FileAgainLemmas.{file_written_back}
use Rattle.mysql_binlog_events.proofs.laws.files_are_written_back.Goals as goal

pub returns : goal.returns
returns g c = λ checksum. file_written_back _
