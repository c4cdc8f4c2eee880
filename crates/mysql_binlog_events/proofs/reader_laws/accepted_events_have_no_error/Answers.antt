use Rattle.events_frames.proofs.TakingLemmas.{taken_right}
use Rattle.mysql_binlog_events.proofs.reader_laws.accepted_events_have_no_error.Goals as goal

pub returns : goal.returns
returns c = taken_right
