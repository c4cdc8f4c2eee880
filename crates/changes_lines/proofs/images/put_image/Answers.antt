use Rattle.rows_cells.specs.ImageViews.{image_shape}
use Rattle.feed_text.specs.Buffers.{text_in}
use Rattle.changes_lines.specs.TableColumns.{columns_in}
use Rattle.changes_lines.proofs.ReadCellLemmas.{none_written, member_written, image_written, image_stops}
use Rattle.changes_lines.proofs.images.put_image.Goals as goal

pub loop-field-init : goal.loop-field-init
loop-field-init c = none_written (columns_in c.args.columns) c.in-Ok.cells (text_in c.args.text.now)

pub loop-field-preserved : goal.loop-field-preserved
loop-field-preserved c =
    member_written (columns_in c.args.columns) c.in-Ok.cells c.loop-field.cells c.skip_field.new.self c.loop-field.separator c.in-Some.field c.in-Ok-put_member.rest.now _ _ _ c.loop-field.invariant c.in-Some.ensures.some c.in-Some.ensures.format c.in-Ok-put_member.ensures.ok c.skip_field.ensures.cell c.skip_field.ensures.columns

pub returns-in-Err-put_member-clause-err : goal.returns-in-Err-put_member-clause-err
returns-in-Err-put_member-clause-err c =
    image_stops (columns_in c.args.columns) (image_shape c.args.plan) c.args.bytes.now c.in-Ok.cells c.loop-field.cells c.in-Some.field c.loop-field.invariant.json c.in-Err-put_member.fault c.in-Ok.ensures.ok c.loop-field.invariant.gives c.in-Some.ensures.some c.in-Err-put_member.ensures.err

pub returns-in-Ok-put_end-clause-ok : goal.returns-in-Ok-put_end-clause-ok
returns-in-Ok-put_end-clause-ok c =
    rw c.rest.ensures (image_written (columns_in c.args.columns) (image_shape c.args.plan) c.args.bytes.now c.in-Ok.cells c.loop-field.cells c.loop-field.separator _ _ _ c.in-Ok.ensures.ok c.in-Ok.ensures.columns c.loop-field.invariant c.in_default.ensures.none c.in-Ok-put_end.ensures.ok)
