use Rattle.std.proofs.lemmas.Result.{IfOk-from_err}
use Rattle.feed_text.proofs.direct_scalars.append.Goals as goal

pub returns-in_err-put_text-clause-ok : goal.returns-in_err-put_text-clause-ok
returns-in_err-put_text-clause-ok g c = IfOk-from_err c.from_residual.result _ c.from_residual.ensures.0
