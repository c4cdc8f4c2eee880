use Rattle.std.proofs.Common.{ℕ, List, ◌++◌, ◌/◌, ◌%◌, ◌∙◌, ap₂, arith, sym}
use Rattle.feed_writers.proofs.DigitLemmas.{joined_is, padded_two_more, two_padded, four_padded}
use Rattle.feed_writers.proofs.digits.put_six.Goals as goal

pub returns-clause-text : goal.returns-clause-text
returns-clause-text c = joined_is _ _ _ _ _ _ c.put_four-end.ensures.text c.put_two.ensures.text (ap₂ (λ (a b : List ℕ). a ++ b) (four_padded (c.args.number / 100) (omega (arith, c.requires.small))) (two_padded (c.args.number % 100) (omega arith)) ∙ sym (padded_two_more 3 c.args.number (omega (arith, c.ranges.number.fits))))
