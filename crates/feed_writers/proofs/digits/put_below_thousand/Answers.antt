use Rattle.std.proofs.Common.{arith, refl, ap, ◌∙◌, ◌++◌, List, ℕ, take}
use Rattle.feed_writers.proofs.DigitLemmas.{count_one, count_two, one_digit, two_padded, decimal_two}
use Rattle.feed_writers.proofs.digits.put_below_thousand.Goals as goal

pub returns-then-number-lt10-clause-end : goal.returns-then-number-lt10-clause-end
returns-then-number-lt10-clause-end c = omega (arith, count_one c.args.number c.if-number-lt10.true, c.put_byte.ensures.end)

pub returns-then-number-lt10-clause-text : goal.returns-then-number-lt10-clause-text
returns-then-number-lt10-clause-text c = one_digit _ _ c.args.number _ c.if-number-lt10.true refl c.put_byte.ensures.text

pub returns-then-number-lt100-clause-end : goal.returns-then-number-lt100-clause-end
returns-then-number-lt100-clause-end c = omega (arith, count_two c.args.number c.if-number-lt10.false c.if-number-lt100.true, c.put_two.ensures.end)

pub returns-then-number-lt100-clause-text : goal.returns-then-number-lt100-clause-text
returns-then-number-lt100-clause-text c = c.put_two.ensures.text ∙ ap (λ (t : List ℕ). take c.args.at c.args.text.now ++ t) (two_padded c.args.number c.if-number-lt100.true) ∙ ap (λ (t : List ℕ). take c.args.at c.args.text.now ++ t) (decimal_two c.args.number c.if-number-lt10.false c.if-number-lt100.true)
