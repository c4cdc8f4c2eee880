use Rattle.rows_cells.specs.ImageViews.{cells_count}
use Rattle.feed_transactions.specs.CheckedRows.{Passes}
use Rattle.feed_transactions.proofs.checked_rows.check_image.Given as goal

-- the cells so far have texts
abbrev pub invariant-loop-alloc : goal.invariant-loop-alloc
invariant-loop-alloc l = Passes l.initial.cells l.cells

abbrev pub decreases-loop-alloc : goal.decreases-loop-alloc
decreases-loop-alloc l = cells_count l.cells
