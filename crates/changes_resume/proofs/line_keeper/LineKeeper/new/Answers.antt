use Rattle.changes_resume.proofs.KeptLineLemmas.{of_nothing}
use Rattle.changes_resume.proofs.line_keeper.LineKeeper.new.Goals as goal

pub returns : goal.returns
returns c = rw (c.new.ensures.items, c.new-2.ensures.items) of_nothing
