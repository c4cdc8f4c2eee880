use Rattle.std.proofs.Common.{rules, ◌≡◌, Some, None}
use Rattle.wire_buf.proofs.EncodingLemmas.{IfErr-of_same}
use Rattle.rows_cells.specs.ImageViews.{image_shape}
use Rattle.rows_cells.specs.RowViews.{second_shape}
use Rattle.feed_transactions.proofs.RowLineLemmas.{one_image, first_failed, second_put, second_not_put}
use Rattle.feed_transactions.proofs.lines.put_images.Goals as goal

pub returns-in_err-rest-clause-err : goal.returns-in_err-rest-clause-err
returns-in_err-rest-clause-err g c =
    IfErr-of_same _ _ _ c.from_residual.ensures (first_failed (image_shape c.args.plan.first) (second_shape c.args.plan.second) c.args.bytes.now _ c.in_err-rest.ensures.err)

pub returns-in_default-clause-ok : goal.returns-in_default-clause-ok
returns-in_default-clause-ok g c =
    let none : c.args.plan.second ≡ None = search rules in
    rw none (one_image (image_shape c.args.plan.first) _ _ _ _ c.in_ok-rest.ensures.ok)

pub returns-clause-ok : goal.returns-clause-ok
returns-clause-ok g c =
    let some : c.args.plan.second ≡ Some c.in-Some.second = search rules in
    rw some (second_put (image_shape c.args.plan.first) (image_shape c.in-Some.second) _ _ _ _ _ _ _ c.in_ok-rest.ensures.ok c.in_ok-put_text.ensures.ok c.put_image-2.ensures.ok)

pub returns-clause-err : goal.returns-clause-err
returns-clause-err g c =
    let some : c.args.plan.second ≡ Some c.in-Some.second = search rules in
    rw some (second_not_put (image_shape c.args.plan.first) (image_shape c.in-Some.second) _ _ _ _ _ c.in_ok-rest.ensures.ok c.put_image-2.ensures.err)
