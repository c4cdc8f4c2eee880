use Rattle.std.proofs.Common.{refl, arith, ◌+◌}
use Rattle.changes_writers.proofs.CalendarLemmas.{early, late, early_date, late_date, early_number, late_number}
use Rattle.changes_writers.proofs.calendar.day_of_year.Goals as goal

pub returns-then-month-lt10-clause-date : goal.returns-then-month-lt10-clause-date
returns-then-month-lt10-clause-date c =
    early_date c.args.year c.args.of_year _ _ (early c.args.year c.args.of_year c.requires.few (omega (arith, c.if-month-lt10.true))) (omega (arith, c.if-month-lt10.true)) refl refl

pub returns-then-month-lt10-clause-value : goal.returns-then-month-lt10-clause-value
returns-then-month-lt10-clause-value c = early_number c.args.year c.args.of_year _ _ (early c.args.year c.args.of_year c.requires.few (omega (arith, c.if-month-lt10.true))) refl refl

pub returns-clause-date : goal.returns-clause-date
returns-clause-date c =
    late_date (c.args.year + 1) c.args.of_year _ _ (late (c.args.year + 1) c.args.of_year c.requires.few (λ h. omega (arith, h, c.if-month-lt10.false)) c.requires.leap) (omega (arith, c.if-month-lt10.false)) refl refl

pub returns-clause-value : goal.returns-clause-value
returns-clause-value c =
    late_number c.args.year c.args.of_year _ _ (late (c.args.year + 1) c.args.of_year c.requires.few (λ h. omega (arith, h, c.if-month-lt10.false)) c.requires.leap) refl (omega (arith, c.if-month-lt10.false)) refl
