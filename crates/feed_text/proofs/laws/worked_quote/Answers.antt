use Rattle.std.proofs.Common.{refl}
use Rattle.feed_writers.specs.Quoting.{quoted}
use Rattle.feed_text.proofs.laws.worked_quote.Goals as goal

pub returns : goal.returns
unfolding quoted
returns c = refl
