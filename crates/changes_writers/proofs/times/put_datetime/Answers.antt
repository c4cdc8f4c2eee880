use Rattle.std.proofs.Common.{rules}
use Rattle.changes_writers.proofs.TimeStringLemmas.{datetime_written, day_plain, time_plain}
use Rattle.changes_writers.proofs.times.put_datetime.Goals as goal

pub returns-clause-text : goal.returns-clause-text
returns-clause-text c =
    datetime_written _ _ _ _ _ _ c.args.digits c.args.day c.args.clock (day_plain c.args.day (search rules) (search rules) (search rules)) (time_plain c.args.digits c.args.clock (search rules) (search rules) (search rules))
    c.put_byte-start.ensures.text c.put_day-end.ensures.text c.put_byte-start-2.ensures.text c.put_time-end.ensures.text c.put_byte.ensures.text
