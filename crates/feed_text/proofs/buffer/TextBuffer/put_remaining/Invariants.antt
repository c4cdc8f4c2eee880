use Rattle.rows_cells.specs.ImageViews.{cells_count}
use Rattle.feed_text.specs.Buffers.{text_in}
use Rattle.feed_text.specs.ImageText.{AppendsFields}
use Rattle.feed_text.proofs.buffer.TextBuffer.put_remaining.Given as goal

-- the text of the cells so far
abbrev pub invariant-loop-column : goal.invariant-loop-column
invariant-loop-column g l = AppendsFields l.fn.cells l.left (text_in l.fn.self) (text_in l.self)

abbrev pub decreases-loop-column : goal.decreases-loop-column
decreases-loop-column g l = cells_count l.left
