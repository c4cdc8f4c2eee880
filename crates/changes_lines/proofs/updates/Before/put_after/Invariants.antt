use Rattle.feed_text.specs.Buffers.{text_in}
use Rattle.rows_cells.specs.ImageViews.{cells_count}
use Rattle.changes_lines.specs.TableColumns.{columns_in}
use Rattle.changes_lines.proofs.UpdateLemmas.{IsUpdating}
use Rattle.changes_lines.proofs.updates.Before.put_after.Given as goal

-- the cells so far were read, and the members of the row so far appended
abbrev pub invariant-loop-field : goal.invariant-loop-field
invariant-loop-field l = IsUpdating (columns_in l.columns) l.text l.initial.cells l.cells l.members l.separator l.fn.self (text_in l.fn.out) (text_in l.out) (text_in l.self.1.1.1.0)

abbrev pub decreases-loop-field : goal.decreases-loop-field
decreases-loop-field l = cells_count l.cells
