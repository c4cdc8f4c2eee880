use Rattle.program_changes.proofs.FollowedLineLemmas.{printed_renamed, wants_renamed}
use Rattle.program_changes.proofs.printer.PrinterAnswerSinkJsonRecorder.enter.Goals as goal

pub returns-clause-has : goal.returns-clause-has
returns-clause-has g c = λ first l acks has. (printed_renamed g.W.Write.contents first.sink c.args.self.now.sink c.rename.new.self l c.rename.ensures.kept has.0, has.1)

pub returns-clause-wants : goal.returns-clause-wants
returns-clause-wants g c = λ f r w. wants_renamed c.args.self.now.sink c.rename.new.self c.rename.ensures.kept f r w
