use Rattle.std.proofs.Common.{rules}
use Rattle.changes_writers.proofs.TimeStringLemmas.{duration_written, time_plain}
use Rattle.changes_writers.proofs.times.put_duration.Goals as goal

pub returns-clause-text : goal.returns-clause-text
returns-clause-text c =
    duration_written _ _ _ _ _ c.args.digits c.args.is_negative c.args.clock (time_plain c.args.digits c.args.clock (search rules) (search rules) (search rules))
    c.put_byte-start.ensures.text c.put_sign-start.ensures.text c.put_time-end.ensures.text c.put_byte.ensures.text
