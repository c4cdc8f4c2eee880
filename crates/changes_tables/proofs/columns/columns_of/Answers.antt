use Rattle.std.proofs.Common.{ℕ, List, [], ◌∷◌, ◌+◌, map, drop, length, sym, ap, ◌∙◌}
use Rattle.std.specs.Global.{Vec}
use Rattle.std.proofs.lemmas.List.{map-append}
use Rattle.rows_table_map.specs.ColumnMetadata.{ColumnMeta}
use Rattle.rows_table_map.specs.ColumnViews.{column_meta_view, remaining_columns, table_map_columns}
use Rattle.rows_table_map.specs.MapViews.{map_of}
use Rattle.changes_tables.specs.FieldViews.{fields_view}
use Rattle.changes_tables.specs.ShownColumns.{column_view}
use Rattle.changes_tables.specs.ColumnParts.{lists_of, parts_after}
use Rattle.changes_tables.specs.ColumnsShown.{IsColumn}
use Rattle.changes_tables.specs.RemainingLists.{remaining_lists}
use Rattle.changes_tables.proofs.NameLemmas.{items_from}
use Rattle.changes_tables.proofs.PartLemmas.{walked_none, walked_more}
use Rattle.changes_tables.proofs.columns.columns_of.Goals as goal

pub loop-name-init : goal.loop-name-init
loop-name-init c =
    let all = lists_of (length (map_of c.args.map.now).column_types) (fields_view c.args.fields) in
    let names = map (λ (n : Vec ℕ). n.items) c.args.names.now in
    walked_none (IsColumn c.args.options) all (parts_after all [] names (table_map_columns c.args.map.now)) (remaining_lists c.in_ok-remaining.remaining) names (remaining_columns c.columns-metas.result) (map column_view c.new-columns.result.items)
    (c.in_ok-remaining.ensures ∙ ap (λ (ts : List ℕ). lists_of (length ts) (fields_view c.args.fields)) c.column_types_raw.ensures) (ap (λ (cs : List ColumnMeta). parts_after all [] names cs) c.columns-metas.ensures) (ap (map column_view) c.new-columns.ensures.items)

pub loop-name-preserved : goal.loop-name-preserved
loop-name-preserved c =
    let all = lists_of (length (map_of c.args.map.now).column_types) (fields_view c.args.fields) in
    let names = map (λ (n : Vec ℕ). n.items) c.args.names.now in
    let rest = map (λ (n : Vec ℕ). n.items) (drop (c.loop-name.name-index + 1) c.args.names.now) in
    let left = items_from c.args.names.now c.loop-name.name-index c.name-item.result c.loop-name-test.true c.name-item.is in
    walked_more (IsColumn c.args.options) all (parts_after all [] names (table_map_columns c.args.map.now)) (remaining_lists c.loop-name.remaining) (remaining_lists c.next_column-in-loop-name.new.remaining)
    (map (λ (n : Vec ℕ). n.items) (drop c.loop-name.name-index c.args.names.now)) rest c.deref.result.now (remaining_columns c.loop-name.metas) (remaining_columns c.next_column.new.self) (column_meta_view c.in-Some.column)
    (map column_view c.loop-name.columns.items) (map column_view c.push.new.self.items) (column_view c.in_ok-next_column.field-0)
    c.loop-name.invariant (left ∙ ap (λ (x : List ℕ). x ∷ rest) (sym c.deref.ensures.value)) c.in-Some.ensures c.in_ok-next_column.ensures.column c.in_ok-next_column.ensures.after
    (ap (map column_view) c.in_ok-push.ensures.items ∙ map-append column_view c.loop-name.columns.items (c.in_ok-next_column.field-0 ∷ []))
