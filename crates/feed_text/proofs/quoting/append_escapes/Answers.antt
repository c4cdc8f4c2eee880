use Rattle.std.proofs.lemmas.Result.{IfOk-from_err}
use Rattle.feed_text.proofs.quoting.append_escapes.Goals as goal

pub returns-in_err-resize-clause-ok : goal.returns-in_err-resize-clause-ok
returns-in_err-resize-clause-ok g c = IfOk-from_err c.from_residual.result _ c.from_residual.ensures.0
