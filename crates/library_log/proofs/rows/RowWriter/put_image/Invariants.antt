use Rattle.rows_cells.specs.ImageViews.{cells_count}
use Rattle.library_log.proofs.RowLemmas.{IsReading}
use Rattle.library_log.proofs.rows.RowWriter.put_image.Given as goal

-- the cells so far were read, and their bytes appended
abbrev pub invariant-loop-field : goal.invariant-loop-field
invariant-loop-field l = IsReading l.initial.cells l.cells l.fn.out.items l.out.items

abbrev pub decreases-loop-field : goal.decreases-loop-field
decreases-loop-field l = cells_count l.cells
