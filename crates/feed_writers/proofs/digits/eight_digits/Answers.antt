use Rattle.std.proofs.Common.{refl, ◌∙◌}
use Rattle.feed_writers.proofs.DigitLemmas.{eight_bytes}
use Rattle.feed_writers.proofs.digits.eight_digits.Goals as goal

pub returns : goal.returns
returns c = c.to_le_bytes.ensures ∙ eight_bytes c.args.number c.from.result c.from-2.result _ c.requires (c.from.ensures ∙ c.four_digits-first.ensures) (c.from-2.ensures ∙ c.four_digits-second.ensures) refl
