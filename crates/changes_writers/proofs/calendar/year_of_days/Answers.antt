use Rattle.std.proofs.Common.{refl}
use Rattle.changes_writers.proofs.CalendarLemmas.{last_day}
use Rattle.changes_writers.proofs.calendar.year_of_days.Goals as goal

pub returns-clause-leap : goal.returns-clause-leap
returns-clause-leap c = last_day _ _ _ c.args.days refl refl refl
