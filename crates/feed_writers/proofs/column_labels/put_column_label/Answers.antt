use Rattle.std.proofs.Common.{◌++◌, ◌∷◌, [], ℕ, List, take, arith, refl, ap, ◌∙◌, append_assoc}
use Rattle.std.specs.Fmt.{decimal}
use Rattle.feed_writers.proofs.DigitLemmas.{count_one, one_digit}
use Rattle.feed_writers.proofs.column_labels.put_column_label.Goals as goal

pub returns-then-number-lt10-clause-end : goal.returns-then-number-lt10-clause-end
returns-then-number-lt10-clause-end c = omega (arith, count_one c.args.number c.if-number-lt10.true, c.put_byte-end.ensures.end, c.put_byte.ensures.end)

pub returns-then-number-lt10-clause-text : goal.returns-then-number-lt10-clause-text
returns-then-number-lt10-clause-text c =
    c.put_byte.ensures.text
    ∙ ap (λ (t : List ℕ). t ++ 61 ∷ []) (one_digit _ _ c.args.number _ c.if-number-lt10.true refl c.put_byte-end.ensures.text)
    ∙ append_assoc (take c.args.at c.args.text.now) (decimal c.args.number) (61 ∷ [])
