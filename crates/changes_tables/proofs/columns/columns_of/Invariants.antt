use Rattle.std.proofs.Common.{ℕ, [], map, drop, length}
use Rattle.std.specs.Global.{Vec}
use Rattle.rows_table_map.specs.ColumnViews.{remaining_columns, table_map_columns}
use Rattle.rows_table_map.specs.MapViews.{map_of}
use Rattle.changes_tables.specs.FieldViews.{fields_view}
use Rattle.changes_tables.specs.ShownColumns.{column_view}
use Rattle.changes_tables.specs.ColumnParts.{lists_of, parts_after}
use Rattle.changes_tables.specs.ColumnsShown.{IsColumn}
use Rattle.changes_tables.specs.RemainingLists.{remaining_lists}
use Rattle.changes_tables.proofs.PartLemmas.{Walked}
use Rattle.changes_tables.proofs.columns.columns_of.Given as goal

abbrev pub invariant-loop-name : goal.invariant-loop-name
invariant-loop-name l =
    let all = lists_of (length (map_of l.map).column_types) (fields_view l.fn.fields) in
    Walked (IsColumn l.options) all (parts_after all [] (map (λ (n : Vec ℕ). n.items) l.names) (table_map_columns l.map))
    (remaining_lists l.remaining) (map (λ (n : Vec ℕ). n.items) (drop l.name-index l.names)) (remaining_columns l.metas) (map column_view l.columns.items)
