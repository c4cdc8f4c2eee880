use Rattle.std.proofs.Common.{arith}
use Rattle.feed_writers.proofs.DigitLemmas.{count_8}
use Rattle.changes_writers.proofs.NumberLemmas.{eight_written}
use Rattle.changes_writers.proofs.numbers.put_high.Goals as goal

pub returns-clause-end : goal.returns-clause-end
returns-clause-end c = omega (arith, c.put_first-end.ensures.end, c.put_four-end.ensures.end, c.put_four.ensures.end, count_8 c.args.number c.requires.long (omega (arith, c.requires.small)))

pub returns-clause-text : goal.returns-clause-text
returns-clause-text c = eight_written _ _ _ _ c.args.number c.requires.long (omega (arith, c.requires.small)) c.put_first-end.ensures.text c.put_four-end.ensures.text c.put_four.ensures.text
