use Rattle.std.proofs.Common.{◌≡◌, ◌++◌, map, drop}
use Rattle.rows_values.specs.Columns.{parts_of}
use Rattle.rows_table_map.specs.BitLists.{bit_at}
use Rattle.rows_table_map.specs.Lists.{strings}
use Rattle.rows_table_map.specs.MetadataViews.{remaining_names}
use Rattle.rows_event_body.specs.PlanViews.{columns_from}
use Rattle.rows_event_body.specs.PickedColumns.{picked, definition}
use Rattle.rows_event_body.proofs.plan.ColumnPlan.definitions.Given as goal

abbrev pub invariant-loop-column_index : goal.invariant-loop-column_index
invariant-loop-column_index l = record {
  defined : map parts_of l.definitions.items ++ map (definition l.self.database.items l.self.table.items) (picked (bit_at l.bits) (columns_from (strings l.self.run.names.items) l.column_index (drop l.column_index l.image)))
      ≡ map (definition l.self.database.items l.self.table.items) (picked (bit_at l.bits) (columns_from (strings l.self.run.names.items) 0 l.image));
  named : remaining_names l.names ≡ drop l.column_index (strings l.self.run.names.items);
}
