use Rattle.std.proofs.Common.{◌≡◌, ◌+◌, ◌/◌, arith}
use Rattle.changes_writers.specs.CivilDates.{day_number}
use Rattle.changes_writers.proofs.CalendarLemmas.{second_is}
use Rattle.changes_writers.proofs.calendar.utc_of.Goals as goal

pub returns-clause-value : goal.returns-clause-value
returns-clause-value c =
    let days : day_number c.day_of_year.result ≡ c.args.seconds / 86400 + 60 = omega (arith, c.day_of_year.ensures.value, c.year_of_days-year.ensures.value) in
    second_is c.args.seconds c.args.micros c.day_of_year.result days
