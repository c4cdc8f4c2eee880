use Rattle.std.proofs.Common.{ap, ◌∙◌}
use Rattle.program_changes.proofs.printer.PrinterTransactionSinkJsonRecorder.log_pos.Goals as goal

pub returns : goal.returns
returns g c = λ t is. c.log_pos.ensures ∙ ap (λ h. h.log_pos) (c.commit_header.ensures t is)
