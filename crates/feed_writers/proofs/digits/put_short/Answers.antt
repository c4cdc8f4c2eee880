use Rattle.std.proofs.Common.{arith, ap, ◌∙◌, ◌++◌, List, ℕ, take}
use Rattle.feed_writers.proofs.DigitLemmas.{count_four, four_padded, decimal_four}
use Rattle.feed_writers.proofs.digits.put_short.Goals as goal

pub returns-clause-end : goal.returns-clause-end
returns-clause-end c = omega (arith, count_four c.args.number c.if-number-lt1000.false c.requires.small, c.put_four.ensures.end)

pub returns-clause-text : goal.returns-clause-text
returns-clause-text c = c.put_four.ensures.text ∙ ap (λ (t : List ℕ). take c.args.at c.args.text.now ++ t) (four_padded c.args.number c.requires.small) ∙ ap (λ (t : List ℕ). take c.args.at c.args.text.now ++ t) (decimal_four c.args.number c.if-number-lt1000.false c.requires.small)
