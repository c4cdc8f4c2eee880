use Rattle.feed_checks.proofs.PartLemmas.{event_here, event_one}
use Rattle.binlog_feed.proofs.check_laws.parts_are_those_of_events.Goals as goal

pub returns-clause-one : goal.returns-clause-one
returns-clause-one c = event_one

pub returns-clause-whole : goal.returns-clause-whole
returns-clause-whole c = event_here
