use Rattle.changes_laws.proofs.UpdateValueLemmas.{updates_read}
use Rattle.changes_laws.proofs.laws.updates_show_their_values.Goals as goal

pub returns : goal.returns
returns c = updates_read
