use Rattle.std.proofs.Common.{arith}
use Rattle.feed_writers.proofs.DigitLemmas.{count_more}
use Rattle.changes_writers.proofs.NumberLemmas.{four_written}
use Rattle.changes_writers.proofs.numbers.put_middle.Goals as goal

pub returns-clause-end : goal.returns-clause-end
returns-clause-end c = omega (arith, c.put_low-end.ensures.end, c.put_four.ensures.end, count_more c.args.number (omega arith) (omega (arith, c.requires.small)))

pub returns-clause-text : goal.returns-clause-text
returns-clause-text c = four_written _ _ _ c.args.number (omega arith) (omega (arith, c.requires.small)) c.put_low-end.ensures.text c.put_four.ensures.text
