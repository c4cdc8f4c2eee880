use Rattle.std.proofs.Common.{[], ◌∷◌}
use Rattle.rows_cells.specs.ImageViews.{image_shape}
use Rattle.changes_lines.specs.TableColumns.{columns_in}
use Rattle.changes_lines.proofs.RowReadLemmas.{first_fails, second_fails_too}
use Rattle.changes_lines.proofs.ReadRowLemmas.{update_appends}
use Rattle.changes_lines.proofs.updates.Before.put_update.Goals as goal

pub returns-in-Err-clause-err : goal.returns-in-Err-clause-err
returns-in-Err-clause-err c = first_fails (image_shape c.args.first) (image_shape c.args.second ∷ []) c.args.bytes.now c.in-Err.fault c.in-Err.ensures.err

pub returns-in-Err-put_after-clause-err : goal.returns-in-Err-put_after-clause-err
returns-in-Err-put_after-clause-err c =
    let b = c.in-Ok.ensures.ok in
    second_fails_too (columns_in c.args.columns) (image_shape c.args.first) (image_shape c.args.second) c.args.bytes.now c.in-Ok.middle.now c.in-Err-put_after.fault (record { values = b.values; json = b.cells; read = b.read; are = b.are }) c.in-Err-put_after.ensures.err

pub returns-in-Ok-put_old-clause-ok : goal.returns-in-Ok-put_old-clause-ok
returns-in-Ok-put_old-clause-ok c =
    let b = c.in-Ok.ensures.ok in
    let after = c.in-Ok-put_after.ensures.ok b.cells b.has in
    update_appends (columns_in c.args.columns) (image_shape c.args.first) (image_shape c.args.second) c.args.bytes.now c.in-Ok.middle.now c.in-Ok-put_after.rest.now _ _ _ _ _ b after (c.in-Ok-put_old.ensures (columns_in c.args.columns) after.changed after.changes_are)
