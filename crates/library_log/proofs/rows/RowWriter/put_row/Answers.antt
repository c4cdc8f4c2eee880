use Rattle.std.proofs.Common.{rules, ◌≡◌, Some, None}
use Rattle.rows_cells.specs.ImageViews.{image_shape}
use Rattle.library_log.proofs.RowLemmas.{one_image, second_image}
use Rattle.library_log.proofs.rows.RowWriter.put_row.Goals as goal

pub returns-in-None-clause-read : goal.returns-in-None-clause-read
returns-in-None-clause-read c =
    let none : c.args.plan.second ≡ None = search rules in
    rw none (one_image (image_shape c.args.plan.first) c.args.bytes.now c.in_ok-rest.rest.now c.in_ok-rest.ensures.read)

pub returns-in-Some-clause-read : goal.returns-in-Some-clause-read
returns-in-Some-clause-read c =
    let some : c.args.plan.second ≡ Some c.in-Some.second = search rules in
    rw some (second_image (image_shape c.args.plan.first) (image_shape c.in-Some.second) c.args.bytes.now c.in_ok-rest.rest.now c.put_image-in-Some.result c.in_ok-rest.ensures.read c.put_image-in-Some.ensures.read)
