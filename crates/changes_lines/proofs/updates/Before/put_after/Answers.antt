use Rattle.rows_cells.specs.ImageViews.{image_shape}
use Rattle.feed_text.specs.Buffers.{text_in}
use Rattle.changes_lines.specs.TableColumns.{columns_in}
use Rattle.changes_lines.proofs.ReadCellLemmas.{image_stops}
use Rattle.changes_lines.proofs.UpdateLemmas.{none_updating, one_updating, update_written}
use Rattle.changes_lines.proofs.updates.Before.put_after.Goals as goal

pub loop-field-init : goal.loop-field-init
loop-field-init c = none_updating (columns_in c.args.columns) c.as_slice-text.result.now c.in-Ok.cells c.as_slice-members.result.now c.args.self.now (text_in c.args.out.now) c.as_slice-text.ensures c.as_slice-members.ensures.value

pub loop-field-preserved : goal.loop-field-preserved
loop-field-preserved c =
    let step = c.in-Ok-put_next.ensures.ok in
    one_updating (columns_in c.args.columns) _ c.in-Ok.cells c.loop-field.cells c.skip_field.new.self c.in-Some.field c.in-Ok-put_next.rest.now step.0 c.loop-field.members.now c.in-Ok-put_next.left.now c.loop-field.separator c.args.self.now _ _ _ _ _ c.loop-field.invariant c.in-Some.ensures.some c.in-Some.ensures.format step.1 step.2 c.skip_field.ensures.cell c.skip_field.ensures.columns

pub returns-in-Err-put_next-clause-err : goal.returns-in-Err-put_next-clause-err
returns-in-Err-put_next-clause-err c =
    image_stops (columns_in c.args.columns) (image_shape c.args.plan) c.args.bytes.now c.in-Ok.cells c.loop-field.cells c.in-Some.field c.loop-field.invariant.json c.in-Err-put_next.fault c.in-Ok.ensures.ok c.loop-field.invariant.gives c.in-Some.ensures.some c.in-Err-put_next.ensures.err

pub returns-clause-ok : goal.returns-clause-ok
returns-clause-ok c =
    rw c.rest.ensures (λ cells h. update_written (columns_in c.args.columns) _ (image_shape c.args.plan) c.args.bytes.now c.in-Ok.cells c.loop-field.cells _ c.loop-field.separator cells _ _ _ _ c.loop-field.invariant.json c.in-Ok.ensures.ok c.in-Ok.ensures.columns c.loop-field.invariant.gives c.in_default.ensures.none (c.loop-field.invariant.updates cells h) (c.in-Ok-put_last.ensures (columns_in c.args.columns)))
