use Rattle.std.proofs.Common.{◌≡◌, ◌+◌, length}
use Rattle.rows_cells.specs.ImageViews.{cells_count}
use Rattle.rows_event_body.proofs.ReadLemmas.{HasRead}
use Rattle.rows_event_body.proofs.row_image.read_values.Given as goal

abbrev pub invariant-loop-cell : goal.invariant-loop-cell
invariant-loop-cell l = record {
  read : HasRead l.fn.cells l.values.items l.cells;
  count : length l.values.items + cells_count l.cells ≡ cells_count l.fn.cells;
}

abbrev pub decreases-loop-cell : goal.decreases-loop-cell
decreases-loop-cell l = cells_count l.cells
