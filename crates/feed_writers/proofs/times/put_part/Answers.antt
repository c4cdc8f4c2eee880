use Rattle.std.proofs.Common.{ℕ, List, ◌++◌, take, ap, ◌∙◌, arith}
use Rattle.feed_writers.proofs.DigitLemmas.{two_padded}
use Rattle.feed_writers.proofs.times.put_part.Goals as goal

pub returns-clause-text : goal.returns-clause-text
returns-clause-text c = c.put_two.ensures.text ∙ ap (λ (t : List ℕ). take c.args.at c.args.text.now ++ t) (two_padded c.args.number (omega (arith, c.if-number-ge100.false)))
