use Rattle.std.proofs.Common.{◌≤◌, length}
use Rattle.rows_event_body.specs.Plans.{Table}
use Rattle.rows_event_body.specs.Walks.{IsWalkAt, HasWalked}
use Rattle.rows_table_map.specs.ColumnViews.{remaining_columns}
use Rattle.rows_event_body.proofs.run.append_columns.Given as goal

abbrev pub invariant-loop-column_index : goal.invariant-loop-column_index
invariant-loop-column_index l = record {
  json : l.walk.json_columns ≤ length l.columns.items;
  taken : (t : Table) → IsWalkAt l.fn.walk t 0 → HasWalked t l.columns.items l.walk;
}

abbrev pub decreases-loop-column_index : goal.decreases-loop-column_index
decreases-loop-column_index l = length (remaining_columns l.walk.columns)
