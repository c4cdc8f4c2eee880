use Rattle.std.proofs.Common.{◌≡◌, ◌++◌}
use Rattle.std.specs.List.{list_all}
use Rattle.rows_table_map.specs.MetadataViews.{indexes_view, indexes_left}
use Rattle.changes_tables.specs.UsedMetadata.{simple, readable}
use Rattle.changes_tables.specs.PrimaryKeys.{is_column, key_entries}
use Rattle.changes_tables.proofs.key.simple_columns.Given as goal

abbrev pub invariant-loop-index : goal.invariant-loop-index
invariant-loop-index l = record {
  all : list_all (is_column l.count) (indexes_left l.index-iterator) ≡ list_all (is_column l.count) (key_entries (simple (indexes_view l.fn.key)));
  read : l.columns.items ++ readable (indexes_left l.index-iterator) ≡ readable (key_entries (simple (indexes_view l.fn.key)));
}
