use Rattle.events_owned.proofs.WholeLemmas.{too_short}
use Rattle.events_owned.proofs.laws.whole_events_fail_only_as_too_short.Goals as goal

pub returns : goal.returns
returns c = too_short
