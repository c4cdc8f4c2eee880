use Rattle.std.proofs.Common.{refl}
use Rattle.rows_cells.specs.ImageViews.{image_shape}
use Rattle.changes_lines.specs.TableColumns.{columns_in}
use Rattle.changes_lines.proofs.ReadCellLemmas.{image_stops}
use Rattle.changes_lines.proofs.UpdateLemmas.{none_kept, one_kept, before_read}
use Rattle.changes_lines.proofs.updates.Before.read.Goals as goal

pub loop-field-init : goal.loop-field-init
loop-field-init c = none_kept (columns_in c.args.columns) c.in-Ok.cells _ c.clear-3.ensures c.clear-2.ensures.items

pub loop-field-preserved : goal.loop-field-preserved
loop-field-preserved c =
    one_kept (columns_in c.args.columns) c.in-Ok.cells c.loop-field.cells c.skip_field.new.self c.in-Some.field c.in-Ok-keep.rest.now c.loop-field.self _ c.loop-field.invariant c.in-Some.ensures.some c.in-Some.ensures.format c.in-Ok-keep.ensures.ok refl c.skip_field.ensures.cell c.skip_field.ensures.columns

pub returns-in-Err-keep-clause-err : goal.returns-in-Err-keep-clause-err
returns-in-Err-keep-clause-err c =
    image_stops (columns_in c.args.columns) (image_shape c.args.plan) c.args.bytes.now c.in-Ok.cells c.loop-field.cells c.in-Some.field c.loop-field.invariant.json c.in-Err-keep.fault c.in-Ok.ensures.ok c.loop-field.invariant.gives c.in-Some.ensures.some c.in-Err-keep.ensures.err

pub returns-clause-ok : goal.returns-clause-ok
returns-clause-ok c =
    rw c.rest.ensures (before_read (columns_in c.args.columns) (image_shape c.args.plan) c.args.bytes.now c.in-Ok.cells c.loop-field.cells c.loop-field.self c.in-Ok.ensures.ok c.in-Ok.ensures.columns c.loop-field.invariant c.in_default.ensures.none)
