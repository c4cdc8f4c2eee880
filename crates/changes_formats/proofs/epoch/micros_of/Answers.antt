use Rattle.std.proofs.Common.{arith}
use Rattle.std.proofs.lemmas.Int.{ints}
use Rattle.changes_writers.specs.CivilDates.{second_number}
use Rattle.changes_writers.proofs.CalendarLemmas.{until_1970}
use Rattle.changes_formats.proofs.epoch.micros_of.Goals as goal

pub returns-in-Some-clause-some : goal.returns-in-Some-clause-some
unfolding second_number
returns-in-Some-clause-some c =
    let number = c.in-Some.ensures.some.1 in
    let most = c.in-Some.ensures.most in
    let from = c.from.ensures in
    let span = c.span_micros.ensures in
    let hours = c.if-clock-gt23.false in
    let minutes = c.if-clock-gt59.false in
    let seconds = c.if-clock-gt59-2.false in
    let micros = c.if-clock-ge-SECOND.false in (
      record { day = c.in-Some.ensures.some.0; time = record { hour = omega (arith, hours); minute = omega (arith, minutes); second = omega (arith, seconds) }; micros = micros },
      omega (arith, ints, number, most, from, span, hours, minutes, seconds, micros, until_1970),
    )
