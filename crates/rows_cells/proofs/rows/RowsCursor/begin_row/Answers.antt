use Rattle.std.proofs.Common.{sym, refl, ap, arith, ◌∙◌}
use Rattle.rows_cells.specs.ImageViews.{image_shape, remaining_cells}
use Rattle.rows_cells.specs.Images.{image_at}
use Rattle.rows_cells.specs.RowViews.{second_shape, row_parts}
use Rattle.rows_cells.proofs.CursorLemmas.{row_begun, row_not_begun, parts_of_rows}
use Rattle.rows_cells.proofs.rows.RowsCursor.begin_row.Goals as goal

pub returns-in-Ok-clause-ok : goal.returns-in-Ok-clause-ok
returns-in-Ok-clause-ok c =
    let s = c.args.self.now in
    rw (c.rest-bytes.ensures) (record {
      stage = refl;
      left = rw c.requires.stage (row_begun (image_shape s.plan.first) (second_shape s.plan.second) s.cells.rest.now (remaining_cells c.in-Ok.cells) (c.in-Ok.ensures.ok ∙ ap (λ r. image_at (image_shape s.plan.first) r.now) c.rest-bytes.ensures));
      parts = rw (c.requires.stage, c.in-Ok.ensures.count) (omega (arith, parts_of_rows _ (row_parts s.plan) c.requires.some));
      plan = refl;
    })

pub returns-in-Err-clause-err : goal.returns-in-Err-clause-err
returns-in-Err-clause-err c =
    let s = c.args.self.now in
    (rw c.requires.stage (row_not_begun (image_shape s.plan.first) (second_shape s.plan.second) s.cells.rest.now c.in-Err.fault (sym (ap (λ r. image_at (image_shape s.plan.first) r.now) c.rest-bytes.ensures) ∙ c.in-Err.ensures.err)), refl)
