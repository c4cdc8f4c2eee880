use Rattle.changes_statements.proofs.QuotedLemmas.{quoted_end}
use Rattle.changes_statements.proofs.laws.quoted_bytes_end.Goals as goal

pub returns : goal.returns
returns c = quoted_end
