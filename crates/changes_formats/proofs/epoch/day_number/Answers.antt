use Rattle.std.proofs.Common.{◌≤◌, refl, arith}
use Rattle.changes_formats.proofs.EpochLemmas.{is_of_calendar, month_more, number_is}
use Rattle.changes_formats.proofs.epoch.day_number.Goals as goal

pub overflow_sub-end : goal.overflow_sub-end
overflow_sub-end c =
    let some : 1 ≤ c.args.day.month = omega (arith, c.if-day-eq0.false) in
    let m = month_more c.args.day.year c.args.day.month some c.if-day-gt12.false in
    let before = c.days_before_month-before.ensures.days in
    let end = c.days_before_month-end.ensures.days in
    omega (arith, m, before, end)

pub returns-clause-some : goal.returns-clause-some
returns-clause-some c =
    let before = c.days_before_month-before.ensures.days in
    let end = c.days_before_month-end.ensures.days in
    let few = c.if-day-end.false in (
      is_of_calendar c.args.day c.if-day-gt-LAST_YEAR.false (omega (arith, c.if-day-eq0.false)) c.if-day-gt12.false (omega (arith, c.if-day-eq0-2.false)) (omega (arith, before, end, few)),
      number_is c.args.day _ _ _ before c.days_before_year.ensures.days refl,
    )
