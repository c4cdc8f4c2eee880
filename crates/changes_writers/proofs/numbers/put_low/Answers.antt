use Rattle.std.proofs.Common.{arith}
use Rattle.changes_writers.proofs.NumberLemmas.{count_2, two_written}
use Rattle.changes_writers.proofs.numbers.put_low.Goals as goal

pub returns-clause-end : goal.returns-clause-end
returns-clause-end c = omega (arith, c.put_first-end.ensures.end, c.put_two.ensures.end, count_2 c.args.number (omega arith) (omega (arith, c.requires.small)))

pub returns-clause-text : goal.returns-clause-text
returns-clause-text c = two_written _ _ _ c.args.number (omega arith) (omega (arith, c.requires.small)) c.put_first-end.ensures.text c.put_two.ensures.text
