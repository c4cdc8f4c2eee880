use Rattle.std.proofs.Common.{refl, ◌∙◌}
use Rattle.feed_writers.proofs.DigitLemmas.{pair_number}
use Rattle.feed_writers.proofs.digits.two_digits.Goals as goal

pub returns : goal.returns
returns c = c.from.ensures ∙ pair_number c.args.number _ _ _ c.requires refl refl c.from_le_bytes.ensures
