use Rattle.rows_cells.specs.ImageViews.{cells_count}
use Rattle.changes_lines.specs.TableColumns.{columns_in}
use Rattle.changes_lines.proofs.ShortRowLemmas.{WritesSoFar}
use Rattle.changes_lines.proofs.short_rows.put_members.Given as goal

-- the members of the cells so far were written, and there is room for the others
abbrev pub invariant-loop-field : goal.invariant-loop-field
invariant-loop-field l = WritesSoFar (columns_in l.columns) l.fn.cells l.left l.separator l.at l.fn.text l.text l.end

abbrev pub decreases-loop-field : goal.decreases-loop-field
decreases-loop-field l = cells_count l.left
