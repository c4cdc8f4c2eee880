use Rattle.std.proofs.Common.{List, ℕ, ◌++◌, take, ap, sym, ◌∙◌}
use Rattle.rows_values.specs.TimeTexts.{padded_decimal}
use Rattle.feed_writers.proofs.DigitLemmas.{padded_zeros}
use Rattle.feed_writers.proofs.times.put_micros.Goals as goal

pub returns-then-number-eq0-clause-text : goal.returns-then-number-eq0-clause-text
returns-then-number-eq0-clause-text c = c.put_bytes.ensures.text ∙ ap (λ (t : List ℕ). take c.args.at c.args.text.now ++ t) (sym padded_zeros ∙ ap (padded_decimal 6) (sym c.if-number-eq0.true))
