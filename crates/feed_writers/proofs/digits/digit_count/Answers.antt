use Rattle.std.proofs.Common.{arith}
use Rattle.feed_writers.proofs.DigitLemmas.{count_more, count_8, count_12, count_16}
use Rattle.feed_writers.proofs.digits.digit_count.Goals as goal

pub returns-then-number-lt100000000-clause-value : goal.returns-then-number-lt100000000-clause-value
returns-then-number-lt100000000-clause-value c =
    omega (arith, count_more c.args.number (omega arith) c.ranges.number.fits, c.short_count-then-number-lt100000000.ensures.value)

pub returns-then-number-lt1000000000000-clause-value : goal.returns-then-number-lt1000000000000-clause-value
returns-then-number-lt1000000000000-clause-value c =
    omega (arith, count_8 c.args.number (omega arith) c.ranges.number.fits, c.short_count-then-number-lt1000000000000.ensures.value)

pub returns-then-number-lt10000000000000000-clause-value : goal.returns-then-number-lt10000000000000000-clause-value
returns-then-number-lt10000000000000000-clause-value c =
    omega (arith, count_12 c.args.number (omega arith) c.ranges.number.fits, c.short_count-then-number-lt10000000000000000.ensures.value)

pub returns-else-number-lt10000000000000000-clause-value : goal.returns-else-number-lt10000000000000000-clause-value
returns-else-number-lt10000000000000000-clause-value c =
    omega (arith, count_16 c.args.number (omega arith) c.ranges.number.fits, c.short_count-else-number-lt10000000000000000.ensures.value)
