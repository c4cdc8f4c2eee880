use Rattle.changes_laws.proofs.LineReadLemmas.{line_read}
use Rattle.changes_laws.proofs.laws.lines_show_their_origin.Goals as goal

pub returns : goal.returns
returns c = line_read
