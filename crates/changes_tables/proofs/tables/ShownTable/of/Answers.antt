use Rattle.std.proofs.Common.{◌≡◌, ℕ, List, [], map, length, ap, subst, ◌∙◌}
use Rattle.std.specs.Global.{Vec}
use Rattle.std.specs.List.{AllZip}
use Rattle.rows_table_map.specs.ColumnViews.{table_map_columns}
use Rattle.rows_table_map.specs.MapViews.{map_of}
use Rattle.changes_tables.specs.FieldViews.{fields_view}
use Rattle.changes_tables.specs.ShownColumns.{column_view}
use Rattle.changes_tables.specs.UsedMetadata.{UsedMetadata}
use Rattle.changes_tables.specs.NamesOfColumns.{names_of}
use Rattle.changes_tables.specs.PrimaryKeys.{key_member, key_columns}
use Rattle.changes_tables.specs.ColumnParts.{lists_of, parts_after, column_names}
use Rattle.changes_tables.specs.ColumnsShown.{IsColumn}
use Rattle.changes_tables.proofs.tables.ShownTable.of.Goals as goal

pub returns : goal.returns
returns c =
    let m = map_of c.args.map.now in
    let used = fields_view c.of-fields.result in
    let items = λ (vs : List (Vec ℕ)). map (λ (n : Vec ℕ). n.items) vs in
    let count : length c.column_types_raw-count.result.now ≡ length m.column_types = ap length c.column_types_raw-count.ensures in
    let named : items c.in_ok-names.names.items ≡ column_names m = c.in_ok-names.ensures ∙ ap (names_of used.names) count ∙ ap (λ (u : UsedMetadata). names_of u.names (length m.column_types)) c.of-fields.ensures in
    record {
      columns =
          subst (λ (u : UsedMetadata). AllZip (IsColumn c.args.options) (parts_after (lists_of (length m.column_types) u) [] (column_names m) (table_map_columns c.args.map.now)) (map column_view c.in_ok-columns_of.field-0.items)) c.of-fields.ensures
          (subst (λ (ns : List (List ℕ)). AllZip (IsColumn c.args.options) (parts_after (lists_of (length m.column_types) used) [] ns (table_map_columns c.args.map.now)) (map column_view c.in_ok-columns_of.field-0.items)) (ap items c.deref.ensures.value ∙ named)
          c.in_ok-columns_of.ensures);
      names = c.in_ok-names_member.ensures;
      key =
          c.in_ok-key_member.ensures
          ∙ ap (λ (ns : List (List ℕ)). key_member ns (key_columns (length c.column_types_raw-count.result.now) used.key)) (ap items c.deref-2.ensures.value ∙ named)
          ∙ ap (λ (n : ℕ). key_member (column_names m) (key_columns n used.key)) count
          ∙ ap (λ (u : UsedMetadata). key_member (column_names m) (key_columns (length m.column_types) u.key)) c.of-fields.ensures;
      lacks = c.of.ensures;
    }
