use Rattle.changes_statements.specs.RowChanges.{bag_of}
use Rattle.changes_statements.proofs.UndoneLemmas.{all_back}
use Rattle.changes_statements.proofs.undo_laws.undone_changes_leave_what_was_there.Goals as goal

pub returns-clause-bags : goal.returns-clause-bags
returns-clause-bags c = all_back

pub returns-clause-lists : goal.returns-clause-lists
returns-clause-lists c = λ l rows after h. all_back l (bag_of rows) after h
