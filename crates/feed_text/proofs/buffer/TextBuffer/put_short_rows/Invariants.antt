use Rattle.std.proofs.Common.{length}
use Rattle.rows_cells.specs.ImageViews.{image_shape}
use Rattle.feed_text.specs.Buffers.{text_in}
use Rattle.feed_text.specs.RowText.{AppendsRows}
use Rattle.feed_text.proofs.buffer.TextBuffer.put_short_rows.Given as goal

-- the lines so far
abbrev pub invariant-loop-self : goal.invariant-loop-self
invariant-loop-self g l = AppendsRows (image_shape l.plan) l.start l.rows l.rest (text_in l.fn.self) (text_in l.self)

abbrev pub decreases-loop-self : goal.decreases-loop-self
decreases-loop-self g l = length l.rest
