use Rattle.std.proofs.Common.{length}
use Rattle.rows_cells.specs.RowViews.{row_shape}
use Rattle.changes_lines.specs.ReadRows.{AddsRead}
use Rattle.changes_lines.specs.ShortMembers.{HaveTextsSoFar}
use Rattle.changes_lines.specs.TableColumns.{columns_in}
use Rattle.changes_lines.proofs.rows.put_rows.Given as goal

-- the rows so far have texts, and their JSON was added
abbrev pub invariant-loop-rest : goal.invariant-loop-rest
invariant-loop-rest l = record {
  texts : HaveTextsSoFar (row_shape l.plan) l.rows_data l.rest;
  json : AddsRead (columns_in l.columns) (row_shape l.plan) l.fn.texts l.rows_data l.rest l.texts;
}

abbrev pub decreases-loop-rest : goal.decreases-loop-rest
decreases-loop-rest l = length l.rest
