use Rattle.std.proofs.Common.{rules, ◌≡◌, Some, None}
use Rattle.rows_cells.specs.ImageViews.{image_shape}
use Rattle.changes_lines.specs.TableColumns.{columns_in}
use Rattle.changes_lines.proofs.RowReadLemmas.{one_fails}
use Rattle.changes_lines.proofs.ReadRowLemmas.{one_appends}
use Rattle.changes_lines.proofs.rows.put_row.Goals as goal

pub returns-in-None-clause-ok : goal.returns-in-None-clause-ok
returns-in-None-clause-ok c =
    let none : c.args.plan.second ≡ None = search rules in
    rw none (one_appends (columns_in c.args.columns) (image_shape c.args.plan.first) c.args.bytes.now _ _ c.put_image.result c.put_image.ensures.ok)

pub returns-in-None-clause-err : goal.returns-in-None-clause-err
returns-in-None-clause-err c =
    let none : c.args.plan.second ≡ None = search rules in
    rw none (one_fails (image_shape c.args.plan.first) c.args.bytes.now c.put_image.result c.put_image.ensures.err)

pub returns-in-Some-clause-ok : goal.returns-in-Some-clause-ok
returns-in-Some-clause-ok c =
    let some : c.args.plan.second ≡ Some c.in-Some.second = search rules in
    rw some c.put_update.ensures.ok
