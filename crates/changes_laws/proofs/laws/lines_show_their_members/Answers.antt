use Rattle.changes_laws.proofs.HeadReadLemmas.{line_with_members_read, statement_with_members_read}
use Rattle.changes_laws.proofs.laws.lines_show_their_members.Goals as goal

pub returns-clause-rows : goal.returns-clause-rows
returns-clause-rows c = line_with_members_read

pub returns-clause-statements : goal.returns-clause-statements
returns-clause-statements c = statement_with_members_read
