use Rattle.changes_laws.proofs.ImageReadLemmas.{images_read}
use Rattle.changes_laws.proofs.laws.images_show_their_values.Goals as goal

pub returns : goal.returns
returns c = images_read
