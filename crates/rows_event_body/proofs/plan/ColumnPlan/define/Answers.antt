use Rattle.std.proofs.lemmas.Result.{IfOk-from_err}
use Rattle.rows_event_body.proofs.plan.ColumnPlan.define.Goals as goal

pub returns-in_err-definition : goal.returns-in_err-definition
returns-in_err-definition c = IfOk-from_err c.from_residual.result _ c.from_residual.ensures.0

pub returns-in_err-push : goal.returns-in_err-push
returns-in_err-push c = IfOk-from_err c.from_residual-in_err-push.result _ c.from_residual-in_err-push.ensures.0
