use Rattle.std.proofs.Common.{◌≤◌, ◌+◌, length, vec_len}
use Rattle.rows_cells.specs.RowViews.{row_shape}
use Rattle.library_log.specs.RecordParts.{Appends}
use Rattle.library_log.proofs.RowLemmas.{IsCounting}
use Rattle.library_log.proofs.rows.RowWriter.put_rows.Given as goal

-- the rows so far were counted, and each appended some bytes
abbrev pub invariant-loop-rest : goal.invariant-loop-rest
invariant-loop-rest l = record {
  counting : IsCounting (row_shape l.plan) l.rows_data l.rest l.rows;
  appends : Appends l.fn.out.items l.out.items;
  more : vec_len l.fn.out + l.rows ≤ vec_len l.out;
}

abbrev pub decreases-loop-rest : goal.decreases-loop-rest
decreases-loop-rest l = length l.rest
