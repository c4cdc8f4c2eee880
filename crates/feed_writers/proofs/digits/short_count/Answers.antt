use Rattle.std.proofs.Common.{arith}
use Rattle.feed_writers.proofs.DigitLemmas.{count_one, count_two, count_three, count_four}
use Rattle.feed_writers.proofs.digits.short_count.Goals as goal

pub returns-then-number-lt10-clause-value : goal.returns-then-number-lt10-clause-value
returns-then-number-lt10-clause-value c = count_one c.args.number (omega arith)

pub returns-else-number-lt10-clause-value : goal.returns-else-number-lt10-clause-value
returns-else-number-lt10-clause-value c = count_two c.args.number (omega arith) (omega arith)

pub returns-then-number-lt1000-clause-value : goal.returns-then-number-lt1000-clause-value
returns-then-number-lt1000-clause-value c = count_three c.args.number (omega arith) (omega arith)

pub returns-else-number-lt1000-clause-value : goal.returns-else-number-lt1000-clause-value
returns-else-number-lt1000-clause-value c = count_four c.args.number (omega arith) (omega arith)
