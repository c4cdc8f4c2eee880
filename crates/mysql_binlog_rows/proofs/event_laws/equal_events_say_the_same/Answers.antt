use Rattle.rows_event_body.proofs.EqualLemmas.{events_decide}
use Rattle.mysql_binlog_rows.proofs.event_laws.equal_events_say_the_same.Goals as goal

pub returns : goal.returns
returns c = events_decide
