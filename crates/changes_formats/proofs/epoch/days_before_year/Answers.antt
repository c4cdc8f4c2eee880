use Rattle.changes_formats.proofs.EpochLemmas.{year_is}
use Rattle.changes_formats.proofs.epoch.days_before_year.Goals as goal

pub returns-clause-days : goal.returns-clause-days
returns-clause-days c = year_is c.args.year
