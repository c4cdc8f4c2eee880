use Rattle.std.proofs.Common.{List, ℕ, [], ◌∷◌, ◌≤◌, length}
use Rattle.rows_cells.specs.ImageViews.{image_shape}
use Rattle.changes_lines.specs.ReadRows.{AddsRead}
use Rattle.changes_lines.specs.ShortMembers.{HaveTextsSoFar}
use Rattle.changes_lines.specs.TableColumns.{columns_in}
use Rattle.changes_lines.proofs.short_rows.put_short_rows.Given as goal

-- the rows so far have texts, and their JSON was added
abbrev pub invariant-loop-columns : goal.invariant-loop-columns
invariant-loop-columns l = record {
  rows : (bytes : List ℕ) → HaveTextsSoFar (image_shape l.plan ∷ []) bytes l.fn.rows → HaveTextsSoFar (image_shape l.plan ∷ []) bytes l.rest;
  json : AddsRead (columns_in l.columns) (image_shape l.plan ∷ []) l.fn.texts l.fn.rows l.rest l.texts;
  most : length l.rest ≤ length l.fn.rows;
}

abbrev pub decreases-loop-columns : goal.decreases-loop-columns
decreases-loop-columns l = length l.rest
