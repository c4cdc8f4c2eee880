use Rattle.std.proofs.lemmas.Result.{IfOk-from_err}
use Rattle.feed_text.proofs.short_strings.append_any_key.Goals as goal

pub returns-in_err-append_separator-clause-ok : goal.returns-in_err-append_separator-clause-ok
returns-in_err-append_separator-clause-ok g c = IfOk-from_err c.from_residual.result _ c.from_residual.ensures.0

pub returns-in_err-append_key_text-clause-ok : goal.returns-in_err-append_key_text-clause-ok
returns-in_err-append_key_text-clause-ok g c = IfOk-from_err c.from_residual-in_err-append_key_text.result _ c.from_residual-in_err-append_key_text.ensures.0

pub returns-in_err-put-clause-ok : goal.returns-in_err-put-clause-ok
returns-in_err-put-clause-ok g c = IfOk-from_err c.from_residual-in_err-put.result _ c.from_residual-in_err-put.ensures.0
