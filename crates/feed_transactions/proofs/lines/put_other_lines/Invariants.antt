use Rattle.std.proofs.Common.{List, ℕ, length}
use Rattle.rows_cells.specs.RowViews.{row_shape}
use Rattle.feed_text.specs.Buffers.{text_in}
use Rattle.feed_transactions.specs.RowLines.{IsAppendedSoFar}
use Rattle.feed_transactions.proofs.lines.put_other_lines.Given as goal

-- the lines so far, and those of the remaining rows
abbrev pub invariant-loop-rest : goal.invariant-loop-rest
invariant-loop-rest g l = (bytes before : List ℕ) → IsAppendedSoFar (row_shape l.plan) l.start bytes l.rows_data before (text_in l.fn.text) → IsAppendedSoFar (row_shape l.plan) l.start bytes l.rest before (text_in l.text)

abbrev pub decreases-loop-rest : goal.decreases-loop-rest
decreases-loop-rest g l = length l.rest
