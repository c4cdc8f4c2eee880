use Rattle.std.proofs.Common.{rules, ◌≡◌, Some, None}
use Rattle.wire_buf.proofs.EncodingLemmas.{IfErr-of_same}
use Rattle.rows_cells.specs.ImageViews.{image_shape}
use Rattle.rows_cells.specs.RowViews.{second_shape}
use Rattle.feed_transactions.proofs.RowLineLemmas.{first_failed}
use Rattle.feed_transactions.proofs.CheckedRowLemmas.{first_passes, second_passes, second_fails}
use Rattle.feed_transactions.proofs.checked_rows.check_images.Goals as goal

pub returns-in_err-rest-clause-err : goal.returns-in_err-rest-clause-err
returns-in_err-rest-clause-err c =
    IfErr-of_same _ _ _ c.from_residual.ensures (first_failed (image_shape c.args.plan.first) (second_shape c.args.plan.second) c.args.bytes.now _ c.in_err-rest.ensures.err)

pub returns-in_default-clause-ok : goal.returns-in_default-clause-ok
returns-in_default-clause-ok c =
    let none : c.args.plan.second ≡ None = search rules in
    rw none (first_passes (image_shape c.args.plan.first) _ _ c.in_ok-rest.ensures.ok)

pub returns-clause-ok : goal.returns-clause-ok
returns-clause-ok c =
    let some : c.args.plan.second ≡ Some c.in-Some.second = search rules in
    rw some (second_passes (image_shape c.args.plan.first) (image_shape c.in-Some.second) _ _ _ c.in_ok-rest.ensures.ok c.check_image-2.ensures.ok)

pub returns-clause-err : goal.returns-clause-err
returns-clause-err c =
    let some : c.args.plan.second ≡ Some c.in-Some.second = search rules in
    rw some (second_fails (image_shape c.args.plan.first) (image_shape c.in-Some.second) _ _ _ c.in_ok-rest.ensures.ok c.check_image-2.ensures.err)
