use Rattle.std.proofs.Common.{ℕ, List, ◌++◌, take, sym, ap, ◌∙◌}
use Rattle.rows_values.specs.TimeTexts.{padded_decimal}
use Rattle.feed_writers.proofs.DigitLemmas.{two_padded, four_padded}
use Rattle.feed_writers.proofs.digits.put_fixed_digits.Goals as goal

pub returns-in-2-clause-text : goal.returns-in-2-clause-text
returns-in-2-clause-text c = c.put_two.ensures.text ∙ ap (λ (t : List ℕ). take c.args.at c.args.text.now ++ t) (two_padded c.args.number (rw c.in-2.is at c.requires.small) ∙ ap (λ (k : ℕ). padded_decimal k c.args.number) (sym c.in-2.is))

pub returns-in-4-clause-text : goal.returns-in-4-clause-text
returns-in-4-clause-text c = c.put_four.ensures.text ∙ ap (λ (t : List ℕ). take c.args.at c.args.text.now ++ t) (four_padded c.args.number (rw c.in-4.is at c.requires.small) ∙ ap (λ (k : ℕ). padded_decimal k c.args.number) (sym c.in-4.is))
