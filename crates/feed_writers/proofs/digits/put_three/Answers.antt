use Rattle.std.proofs.Common.{List, ◌≡◌, ◌-◌, ◌*◌, ◌/◌, ◌%◌, ◌++◌, ℕ, take, arith, ap, ◌∙◌}
use Rattle.rows_values.specs.TimeTexts.{padded_decimal}
use Rattle.feed_writers.proofs.DigitLemmas.{count_three, two_padded, decimal_three, pushed_then}
use Rattle.feed_writers.proofs.digits.put_three.Goals as goal

pub returns-clause-end : goal.returns-clause-end
returns-clause-end c = omega (arith, count_three c.args.number c.requires.long c.requires.small, c.put_byte-end.ensures.end, c.put_two.ensures.end)

pub returns-clause-text : goal.returns-clause-text
returns-clause-text c =
    let last : c.args.number - 100 * (c.args.number / 100) ≡ c.args.number % 100 = omega arith in
    pushed_then _ _ _ _ _ _ c.put_byte-end.ensures.text (c.put_two.ensures.text ∙ ap (λ (t : List ℕ). take c.put_byte-end.result c.put_byte-end.new.text ++ t) (two_padded _ (omega (arith, last)) ∙ ap (padded_decimal 2) last)) (decimal_three c.args.number c.requires.long c.requires.small)
