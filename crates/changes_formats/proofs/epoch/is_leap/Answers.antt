use Rattle.changes_formats.proofs.EpochLemmas.{leap_of_century, leap_of_other}
use Rattle.changes_formats.proofs.epoch.is_leap.Goals as goal

pub returns-then-year-eq0 : goal.returns-then-year-eq0
returns-then-year-eq0 c = leap_of_century c.args.year c.if-year-eq0.true

pub returns : goal.returns
returns c = leap_of_other c.args.year c.if-year-eq0.false
