use Rattle.std.proofs.Common.{◌≡◌, ◌++◌, ℕ, map}
use Rattle.std.specs.List.{list_all}
use Rattle.rows_errors.specs.Readings.{map_reading}
use Rattle.rows_table_map.specs.MetadataViews.{keys_view, remaining_keys}
use Rattle.changes_tables.specs.UsedMetadata.{with_prefixes, readable}
use Rattle.changes_tables.specs.PrimaryKeys.{is_column, key_entries}
use Rattle.changes_tables.proofs.key.prefixed_columns.Given as goal

abbrev pub invariant-loop-column : goal.invariant-loop-column
invariant-loop-column l = record {
  all : list_all (is_column l.count) (map (map_reading (λ (key : ℕ × ℕ). key.0)) (remaining_keys l.column-iterator)) ≡ list_all (is_column l.count) (key_entries (with_prefixes (keys_view l.fn.key)));
  read : l.columns.items ++ readable (map (map_reading (λ (key : ℕ × ℕ). key.0)) (remaining_keys l.column-iterator)) ≡ readable (key_entries (with_prefixes (keys_view l.fn.key)));
}
