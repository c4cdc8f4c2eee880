use Rattle.rows_cells.specs.ImageViews.{cells_count}
use Rattle.changes_lines.specs.TableColumns.{columns_in}
use Rattle.changes_lines.proofs.UpdateLemmas.{IsKeeping}
use Rattle.changes_lines.proofs.updates.Before.read.Given as goal

-- the cells so far were read, and their members kept
abbrev pub invariant-loop-field : goal.invariant-loop-field
invariant-loop-field l = IsKeeping (columns_in l.columns) l.initial.cells l.cells l.self

abbrev pub decreases-loop-field : goal.decreases-loop-field
decreases-loop-field l = cells_count l.cells
