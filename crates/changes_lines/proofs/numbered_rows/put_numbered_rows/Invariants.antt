use Rattle.std.proofs.Common.{length}
use Rattle.rows_cells.specs.RowViews.{row_shape}
use Rattle.changes_lines.specs.ReadRows.{AddsNumbered}
use Rattle.changes_lines.specs.ShortMembers.{HaveTextsSoFar}
use Rattle.changes_lines.specs.TableColumns.{columns_in}
use Rattle.changes_lines.proofs.numbered_rows.put_numbered_rows.Given as goal

-- the rows so far have texts, and their JSON was added, with their numbers
abbrev pub invariant-loop-rest : goal.invariant-loop-rest
invariant-loop-rest l = record {
  texts : HaveTextsSoFar (row_shape l.plan) l.rows_data l.rest;
  json : AddsNumbered (columns_in l.columns) (row_shape l.plan) l.fn.texts l.rows_data l.rows l.rest l.number l.texts;
}

abbrev pub decreases-loop-rest : goal.decreases-loop-rest
decreases-loop-rest l = length l.rest
