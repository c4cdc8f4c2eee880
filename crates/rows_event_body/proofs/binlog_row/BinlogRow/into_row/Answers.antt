use Rattle.std.proofs.Common.{inl, refl}
use Rattle.std.proofs.lemmas.Result.{IfOk-from_err, err_from_is_err_and}
use Rattle.rows_event_body.proofs.binlog_row.BinlogRow.into_row.Goals as goal

pub returns-in_err-plain-clause-values : goal.returns-in_err-plain-clause-values
returns-in_err-plain-clause-values c = IfOk-from_err c.from_residual.result _ c.from_residual.ensures.0

pub returns-in_err-plain-clause-columns : goal.returns-in_err-plain-clause-columns
returns-in_err-plain-clause-columns c = IfOk-from_err c.from_residual.result _ c.from_residual.ensures.0

pub returns-in_err-plain-clause-err : goal.returns-in_err-plain-clause-err
returns-in_err-plain-clause-err c = let p = err_from_is_err_and c.from_residual.result c.from_residual.ensures.1 in rw p.1 (inl p.2)

pub returns-in_err-push-in-Ok-clause-values : goal.returns-in_err-push-in-Ok-clause-values
returns-in_err-push-in-Ok-clause-values c = IfOk-from_err c.from_residual-in_err-push-in-Ok.result _ c.from_residual-in_err-push-in-Ok.ensures.0

pub returns-in_err-push-in-Ok-clause-columns : goal.returns-in_err-push-in-Ok-clause-columns
returns-in_err-push-in-Ok-clause-columns c = IfOk-from_err c.from_residual-in_err-push-in-Ok.result _ c.from_residual-in_err-push-in-Ok.ensures.0

pub returns-in_err-push-in-Ok-clause-err : goal.returns-in_err-push-in-Ok-clause-err
returns-in_err-push-in-Ok-clause-err c = let p = err_from_is_err_and c.from_residual-in_err-push-in-Ok.result c.from_residual-in_err-push-in-Ok.ensures.1 in rw p.1 (inl p.2)

pub loop-value-init : goal.loop-value-init
loop-value-init c = rw (c.in_ok-plain.ensures.items, c.into_iter-value-iterator.ensures.into_iter_gives.0) refl
