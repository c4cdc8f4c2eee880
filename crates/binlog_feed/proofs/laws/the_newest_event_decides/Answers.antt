use Rattle.binlog_feed.proofs.LookingBackLemmas.{inside-has, inside-of, waits-has, waits-of, waiting-has, waiting-of, map-has, map-of}
use Rattle.binlog_feed.proofs.laws.the_newest_event_decides.Goals as goal

pub returns-clause-inside : goal.returns-clause-inside
returns-clause-inside c = λ past. (inside-has past, inside-of past)

pub returns-clause-waits : goal.returns-clause-waits
returns-clause-waits c = λ past. (waits-has past, waits-of past)

pub returns-clause-gtid : goal.returns-clause-gtid
returns-clause-gtid c = λ past g. (waiting-has past g, waiting-of past g)

pub returns-clause-map : goal.returns-clause-map
returns-clause-map c = λ past id m. (map-has past id m, map-of past id m)
