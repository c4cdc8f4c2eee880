use Rattle.rows_cells.specs.ImageViews.{cells_count}
use Rattle.feed_text.proofs.ImageTextLemmas.{WritesWithRoom}
use Rattle.feed_text.proofs.images.put_fields.Given as goal

-- the text of the cells so far, and room for the others
abbrev pub invariant-loop-field : goal.invariant-loop-field
invariant-loop-field l = WritesWithRoom l.fn.cells l.left l.at l.fn.text l.text l.end

abbrev pub decreases-loop-field : goal.decreases-loop-field
decreases-loop-field l = cells_count l.left
