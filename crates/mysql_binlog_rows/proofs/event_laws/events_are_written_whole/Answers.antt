use Rattle.rows_event_body.proofs.WritingLemmas.{written_whole}
use Rattle.mysql_binlog_rows.proofs.event_laws.events_are_written_whole.Goals as goal

pub returns : goal.returns
returns c = written_whole
