use Rattle.changes_laws.proofs.LineReadLemmas.{statement_read}
use Rattle.changes_laws.proofs.laws.statements_show_their_parts.Goals as goal

pub returns : goal.returns
returns c = statement_read
