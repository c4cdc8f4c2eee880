use Rattle.std.proofs.Common.{sym, ◌∙◌}
use Rattle.changes_formats.proofs.EpochLemmas.{leap_months_before, months_before}
use Rattle.changes_formats.proofs.epoch.days_before_month.Goals as goal

pub returns-then-is_leap-clause-days : goal.returns-then-is_leap-clause-days
returns-then-is_leap-clause-days c = c.from.ensures ∙ leap_months_before c.args.year c.args.months (sym c.is_leap.ensures ∙ c.if-is_leap.true) c.requires

pub returns-clause-days : goal.returns-clause-days
returns-clause-days c = c.from-2.ensures ∙ months_before c.args.year c.args.months (sym c.is_leap.ensures ∙ c.if-is_leap.false) c.requires
