use Rattle.std.proofs.Common.{refl, subst}
use Rattle.rows_cells.specs.declared.image.ImageCells.{ImageCells}
use Rattle.feed_transactions.specs.CheckedRows.{Passes, IsNextError}
use Rattle.wire_buf.proofs.EncodingLemmas.{IfErr-of_same}
use Rattle.rows_cells.specs.ImageViews.{image_shape}
use Rattle.feed_transactions.proofs.CheckedRowLemmas.{passes_none, passes_more, image_fails}
use Rattle.feed_transactions.proofs.checked_rows.check_image.Goals as goal
use Rattle.feed_transactions.proofs.checked_rows.check_image.Goals.{else-not-skip_integer-via-then-not-skip_integer+in_ok-check_next+else-not-branch, else-not-skip_integer-via-else-not-skip_integer}

pub loop-alloc-init : goal.loop-alloc-init
loop-alloc-init c = passes_none c.in-Ok.cells

pub returns-in_err-check_next-clause-err : goal.returns-in_err-check_next-clause-err
returns-in_err-check_next-clause-err c =
    IfErr-of_same _ _ _ c.from_residual.ensures (image_fails (image_shape c.args.plan) c.args.bytes.now c.in-Ok.cells c.loop-alloc.cells _ c.in-Ok.ensures.ok c.loop-alloc.invariant (subst (λ (x : ImageCells). IsNextError x c.in_err-check_next.field-0.0) (c.if-not-skip_integer.ensures.unchanged refl) c.in_err-check_next.ensures.err))

pub loop-alloc-preserved : goal.loop-alloc-preserved
loop-alloc-preserved c =
    elim c.else-not-skip_integer.branch [
      | else-not-skip_integer-via-then-not-skip_integer+in_ok-check_next+else-not-branch w ↦
          let one = rw w.if-not-branch.false at w.in_ok-check_next.ensures.ok in
          rw w.cells-is (passes_more c.in-Ok.cells c.loop-alloc.cells w.check_next.new.cells c.loop-alloc.invariant (subst (λ (x : ImageCells). Passes x w.check_next.new.cells) (w.if-not-skip_integer.ensures.unchanged refl) one.0))
      | else-not-skip_integer-via-else-not-skip_integer w ↦ rw w.cells-is (passes_more c.in-Ok.cells c.loop-alloc.cells c.skip_integer.new.cells c.loop-alloc.invariant (w.if-not-skip_integer.ensures.skips refl))
    ]
