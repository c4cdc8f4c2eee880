use Rattle.std.proofs.Common.{◌≡◌, ◌++◌, map, drop}
use Rattle.rows_table_map.specs.BitLists.{bit_at}
use Rattle.rows_table_map.specs.Lists.{strings}
use Rattle.rows_event_body.specs.PlanViews.{columns_from}
use Rattle.rows_event_body.specs.PickedColumns.{picked, image_column}
use Rattle.rows_event_body.proofs.plan.ColumnPlan.image_columns.Given as goal

abbrev pub invariant-loop-column : goal.invariant-loop-column
invariant-loop-column l =
    l.columns.items ++ map image_column (picked (bit_at l.bits) (columns_from (strings l.self.run.names.items) l.column-index (drop l.column-index l.image)))
    ≡ l.fn.columns.items ++ map image_column (picked (bit_at l.bits) (columns_from (strings l.self.run.names.items) 0 l.image))
