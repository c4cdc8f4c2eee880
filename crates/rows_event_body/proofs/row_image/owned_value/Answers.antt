use Rattle.std.proofs.lemmas.Result.{IfOk-from_err, err_from_is_err_and}
use Rattle.rows_event_body.proofs.row_image.owned_value.Goals as goal

pub returns-in_err-into_owned-clause-ok : goal.returns-in_err-into_owned-clause-ok
returns-in_err-into_owned-clause-ok c = IfOk-from_err c.from_residual.result _ c.from_residual.ensures.0

pub returns-in_err-into_owned-clause-err : goal.returns-in_err-into_owned-clause-err
returns-in_err-into_owned-clause-err c = let p = err_from_is_err_and c.from_residual.result c.from_residual.ensures.1 in rw p.1 p.2
