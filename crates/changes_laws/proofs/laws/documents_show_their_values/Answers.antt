use Rattle.changes_laws.proofs.DocumentReadLemmas.{documents_read}
use Rattle.changes_laws.proofs.laws.documents_show_their_values.Goals as goal

pub returns : goal.returns
returns c = documents_read
