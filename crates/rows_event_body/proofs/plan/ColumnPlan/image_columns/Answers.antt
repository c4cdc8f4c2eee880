use Rattle.std.proofs.Common.{List, Ok, inl, inr, refl, sym, ap, ◌∙◌}
use Rattle.std.proofs.lemmas.Result.{IfOk-from_err, err_from_is_err_and}
use Rattle.rows_table_map.specs.BitLists.{bit_at}
use Rattle.rows_errors.specs.Readings.{Reading}
use Rattle.rows_table_map.specs.Lists.{strings}
use Rattle.rows_event_body.specs.Plans.{PlannedColumn}
use Rattle.rows_event_body.specs.PickedColumns.{image_column, picked_as, appended}
use Rattle.rows_event_body.specs.PlanViews.{planned}
use Rattle.rows_event_body.proofs.PickedLemmas.{all_defined}
use Rattle.rows_event_body.proofs.plan.ColumnPlan.image_columns.Goals as goal

pub returns-in_err-push-clause-ok : goal.returns-in_err-push-clause-ok
returns-in_err-push-clause-ok c = IfOk-from_err c.from_residual.result _ c.from_residual.ensures.0

pub returns-in_err-push-clause-err : goal.returns-in_err-push-clause-err
returns-in_err-push-clause-err c = let p = err_from_is_err_and c.from_residual.result c.from_residual.ensures.1 in rw p.1 (inl p.2)

pub returns-in-Err-clause-err : goal.returns-in-Err-clause-err
returns-in-Err-clause-err c = inr (ap (planned c.args.self.now.run) (sym c.len.ensures) ∙ sym c.in-Err.ensures, refl)

pub returns-in-Err-clause-failed : goal.returns-in-Err-clause-failed
returns-in-Err-clause-failed c = rw (← c.len.ensures, ← c.in-Err.ensures) (refl, refl)

pub loop-column-init : goal.loop-column-init
loop-column-init c = refl

pub returns-in_err-push-clause-failed : goal.returns-in_err-push-clause-failed
returns-in_err-push-clause-failed c = rw (← c.len.ensures, ← c.in-Ok.ensures) tt

pub returns-clause-failed : goal.returns-clause-failed
returns-clause-failed c = rw (← c.len.ensures, ← c.in-Ok.ensures) tt

pub returns-clause-ok : goal.returns-clause-ok
returns-clause-ok c =
    let known = ap (planned c.args.self.now.run) (sym c.len.ensures) ∙ sym c.in-Ok.ensures in
    ap (λ (r : Reading (List PlannedColumn)). appended c.args.columns.now.items (picked_as image_column (bit_at c.args.bits) r)) known
    ∙ ap Ok (all_defined image_column (bit_at c.args.bits) (strings c.args.self.now.run.names.items) c.in-Ok.image.now c.loop-column.column-index c.loop-column.columns.items _ c.loop-column-test.false c.loop-column.invariant)
