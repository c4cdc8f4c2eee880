use Rattle.changes_statements.proofs.NoStatementLemmas.{no_statement}
use Rattle.changes_statements.proofs.laws.changes_with_a_reason_have_no_statement.Goals as goal

pub returns : goal.returns
returns c = no_statement
