use Rattle.std.proofs.Common.{arith}
use Rattle.std.proofs.lemmas.Int.{ints}
use Rattle.changes_writers.proofs.CalendarLemmas.{until_1970}
use Rattle.changes_writers.proofs.calendar.utc_of_seconds.Goals as goal

pub returns-clause-value : goal.returns-clause-value
returns-clause-value c =
    let v = c.utc_of.ensures.value in
    let r = c.requires in
    let s = c.ranges.seconds in
    omega (arith, ints, v, r.low, r.high, s, until_1970)
