use Rattle.feed_checks.proofs.EventLemmas.{events-law, events-seen}
use Rattle.binlog_feed.proofs.report_laws.events_are_longest.Goals as goal

pub returns-clause-whole : goal.returns-clause-whole
returns-clause-whole c = λ b. (events-law b).0

pub returns-clause-prefix : goal.returns-clause-prefix
returns-clause-prefix c = λ b. (events-law b).1

pub returns-clause-longest : goal.returns-clause-longest
returns-clause-longest c = events-seen
