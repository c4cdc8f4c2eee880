use Rattle.std.proofs.Common.{◌+◌, ◌++◌, ℕ, take, ap, arith, ◌∙◌}
use Rattle.std.specs.Fmt.{decimal}
use Rattle.feed_text.proofs.PlainTextLemmas.{decimal_left, quoted_so}
use Rattle.feed_text.proofs.short.put_year.Goals as goal

pub returns-clause-text : goal.returns-clause-text
returns-clause-text c = quoted_so _ _ _ _ _ c.put_byte-end.ensures.text (c.put_number-end.ensures.text ∙ ap (λ (y : ℕ). take c.put_byte-end.result c.put_byte-end.new.text ++ decimal (1900 + y)) c.from.ensures) c.put_byte.ensures.text (decimal_left (1900 + c.args.years) (omega (arith, c.ranges.years.fits)))
