use Rattle.changes_statements.proofs.UndoneLemmas.{turned_twice, undone_twice}
use Rattle.changes_statements.proofs.undo_laws.turned_round_twice_is_the_same.Goals as goal

pub returns-clause-change : goal.returns-clause-change
returns-clause-change c = turned_twice

pub returns-clause-changes : goal.returns-clause-changes
returns-clause-changes c = undone_twice
