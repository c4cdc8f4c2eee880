use Rattle.std.proofs.Common.{inl}
use Rattle.std.proofs.lemmas.Result.{IfOk-from_err, err_from_is_err_and}
use Rattle.std.proofs.Common.{length, sym, ap, ◌∙◌}
use Rattle.rows_cells.specs.Images.{ImageShape}
use Rattle.rows_event_body.proofs.row_image.RowImage.read.Goals as goal

pub of_image-row-requires : goal.of_image-row-requires
of_image-row-requires c =
    ap length (c.in_ok-clone-2.ensures.cases ∙ sym (ap (λ (s : ImageShape). s.columns) c.plan.ensures)) ∙ sym c.in-Ok.ensures.count ∙ sym c.in-Ok-read_values.ensures.count

pub returns-in_err-clone-clause-ok : goal.returns-in_err-clone-clause-ok
returns-in_err-clone-clause-ok c = IfOk-from_err c.from_residual.result _ c.from_residual.ensures.0

pub returns-in_err-clone-clause-err : goal.returns-in_err-clone-clause-err
returns-in_err-clone-clause-err c = let p = err_from_is_err_and c.from_residual.result c.from_residual.ensures.1 in rw p.1 (inl p.2)

pub returns-in_err-clone-2-clause-ok : goal.returns-in_err-clone-2-clause-ok
returns-in_err-clone-2-clause-ok c = IfOk-from_err c.from_residual-in_err-clone-2.result _ c.from_residual-in_err-clone-2.ensures.0

pub returns-in_err-clone-2-clause-err : goal.returns-in_err-clone-2-clause-err
returns-in_err-clone-2-clause-err c = let p = err_from_is_err_and c.from_residual-in_err-clone-2.result c.from_residual-in_err-clone-2.ensures.1 in rw p.1 (inl p.2)
