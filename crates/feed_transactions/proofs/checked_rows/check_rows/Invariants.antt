use Rattle.std.proofs.Common.{◌≤◌, ◌+◌, length}
use Rattle.rows_cells.specs.RowViews.{row_shape}
use Rattle.feed_transactions.proofs.CheckedRowLemmas.{HaveTextsSoFar}
use Rattle.feed_transactions.proofs.CountedRowLemmas.{CountedSoFar}
use Rattle.feed_transactions.proofs.checked_rows.check_rows.Given as goal

-- the rows so far have texts, and were counted; each took a byte
abbrev pub invariant-loop-rest : goal.invariant-loop-rest
invariant-loop-rest l = record {
  texts : HaveTextsSoFar (row_shape l.plan) l.rows_data l.rest;
  count : CountedSoFar (row_shape l.plan) l.rows_data l.rest l.rows;
  within : l.rows + length l.rest ≤ length l.rows_data;
}

abbrev pub decreases-loop-rest : goal.decreases-loop-rest
decreases-loop-rest l = length l.rest
