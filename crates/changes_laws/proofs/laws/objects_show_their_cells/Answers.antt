use Rattle.changes_laws.proofs.ObjectReadLemmas.{objects_read}
use Rattle.changes_laws.proofs.laws.objects_show_their_cells.Goals as goal

pub returns : goal.returns
returns c = objects_read
