use Rattle.program_changes.proofs.FollowedLineLemmas.{printed_renamed, renames_none, wants_renamed}
use Rattle.program_changes.proofs.printer.PrinterAnswerSinkJsonRecorder.pass.Goals as goal

pub returns-in-Some-clause-has : goal.returns-in-Some-clause-has
returns-in-Some-clause-has g c = λ first l acks has.
    (printed_renamed g.W.Write.contents first.sink c.args.self.now.sink c.begin_at.new.self l (renames_none c.args.self.now.sink c.begin_at.new.self c.begin_at.ensures.kept) has.0, has.1)

pub returns-in-Some-clause-wants : goal.returns-in-Some-clause-wants
returns-in-Some-clause-wants g c = λ f r w. wants_renamed c.args.self.now.sink c.begin_at.new.self (renames_none c.args.self.now.sink c.begin_at.new.self c.begin_at.ensures.kept) f r w
