use Rattle.std.proofs.lemmas.Result.{IfOk-from_err}
use Rattle.feed_text.proofs.short_strings.append_string.Goals as goal

pub returns-in_err-reserve-clause-ok : goal.returns-in_err-reserve-clause-ok
returns-in_err-reserve-clause-ok g c = IfOk-from_err c.from_residual.result _ c.from_residual.ensures.0
