use Rattle.changes_laws.proofs.UpdateReadLemmas.{newest_is_after, old_is_what_changed}
use Rattle.changes_laws.proofs.laws.updates_are_their_images.Goals as goal

pub returns-clause-newest : goal.returns-clause-newest
returns-clause-newest c = newest_is_after

pub returns-clause-old : goal.returns-clause-old
returns-clause-old c = old_is_what_changed
