use Rattle.rows_cells.specs.ImageViews.{image_shape}
use Rattle.library_log.proofs.RowLemmas.{none_read, one_read, image_read}
use Rattle.library_log.proofs.rows.RowWriter.put_image.Goals as goal

pub loop-field-init : goal.loop-field-init
loop-field-init c = none_read c.in_ok-cells.cells c.args.out.now.items

pub loop-field-preserved : goal.loop-field-preserved
loop-field-preserved c =
    one_read _ c.loop-field.cells c.skip_field.new.self c.in-Some.field c.in_ok-rest.rest.now _ _ _ _ c.loop-field.invariant c.in-Some.ensures.some c.in_ok-rest.ensures.read c.skip_field.ensures.cell c.in_ok-put_absent.ensures c.in_ok-rest.ensures.appended

pub returns-clause-read : goal.returns-clause-read
returns-clause-read c = rw c.rest.ensures (image_read (image_shape c.args.plan) c.args.bytes.now c.args.out.now.items c.loop-field.out.items c.in_ok-cells.cells c.loop-field.cells c.in_ok-cells.ensures.ok c.loop-field.invariant c.in_default.ensures.none)
