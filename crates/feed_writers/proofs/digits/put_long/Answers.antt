use Rattle.std.proofs.Common.{arith}
use Rattle.feed_writers.proofs.DigitLemmas.{count_8, joined_is, eight_more}
use Rattle.feed_writers.proofs.digits.put_long.Goals as goal

pub returns-clause-end : goal.returns-clause-end
returns-clause-end c = omega (arith, count_8 c.args.number c.requires.long c.ranges.number.fits, c.put_below_hundred-end.ensures.end, c.put_eight_bytes.ensures.end)

pub returns-clause-text : goal.returns-clause-text
returns-clause-text c = joined_is _ _ _ _ _ _ c.put_below_hundred-end.ensures.text c.put_eight_bytes.ensures.text (eight_more c.args.number c.requires.long c.ranges.number.fits)
