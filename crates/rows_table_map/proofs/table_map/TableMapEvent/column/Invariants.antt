use Rattle.std.proofs.Common.{◌≡◌, drop}
use Rattle.rows_table_map.specs.ColumnViews.{remaining_columns, table_map_columns}
use Rattle.rows_table_map.proofs.table_map.TableMapEvent.column.Given as goal

-- the remaining columns are those from the index on
abbrev pub invariant-loop : goal.invariant-loop
invariant-loop l = drop l.counter (table_map_columns l.self) ≡ remaining_columns l.columns
