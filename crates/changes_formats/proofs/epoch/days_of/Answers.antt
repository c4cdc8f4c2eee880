use Rattle.std.proofs.Common.{arith}
use Rattle.std.proofs.lemmas.Int.{ints}
use Rattle.changes_writers.proofs.CalendarLemmas.{until_1970}
use Rattle.changes_formats.proofs.epoch.days_of.Goals as goal

pub returns-in-Some-clause-some : goal.returns-in-Some-clause-some
returns-in-Some-clause-some c =
    let number = c.in-Some.ensures.some.1 in
    let most = c.in-Some.ensures.most in
    let from = c.from.ensures in
    (c.in-Some.ensures.some.0, omega (arith, ints, number, most, from, until_1970))
