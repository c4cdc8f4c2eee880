use Rattle.std.proofs.Common.{rules}
use Rattle.changes_writers.proofs.TimeStringLemmas.{date_written, day_plain}
use Rattle.changes_writers.proofs.times.put_date.Goals as goal

pub returns-clause-text : goal.returns-clause-text
returns-clause-text c = date_written _ _ _ _ c.args.day (day_plain c.args.day (search rules) (search rules) (search rules)) c.put_byte-start.ensures.text c.put_day-end.ensures.text c.put_byte.ensures.text
