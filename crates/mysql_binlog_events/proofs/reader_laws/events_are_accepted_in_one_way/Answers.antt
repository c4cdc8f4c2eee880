use Rattle.events_frames.proofs.TakingLemmas.{taken_one}
use Rattle.mysql_binlog_events.proofs.reader_laws.events_are_accepted_in_one_way.Goals as goal

pub returns : goal.returns
returns c = taken_one
