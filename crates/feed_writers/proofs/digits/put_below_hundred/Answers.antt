use Rattle.std.proofs.Common.{refl, arith}
use Rattle.feed_writers.proofs.DigitLemmas.{short_pair, short_pair_len}
use Rattle.feed_writers.proofs.digits.put_below_hundred.Goals as goal

pub returns-clause-end : goal.returns-clause-end
returns-clause-end c = omega (arith, c.put_byte.ensures.end, short_pair_len c.at_least.result c.args.number c.requires.small c.at_least.ensures.from c.at_least.ensures.below)

pub returns-clause-text : goal.returns-clause-text
returns-clause-text c =
    short_pair c.args.at c.put_byte-end.result c.put_byte.result c.at_least.result c.args.number _ _ c.args.text.now c.put_byte-end.new.text c.put_byte.new.text c.requires.small c.requires.room c.at_least.ensures.from c.at_least.ensures.below refl refl c.put_byte-end.ensures.end c.put_byte-end.ensures.text c.put_byte.ensures.text
