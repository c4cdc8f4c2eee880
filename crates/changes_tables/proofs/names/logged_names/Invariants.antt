use Rattle.std.proofs.Common.{◌≡◌, ◌++◌, map}
use Rattle.std.specs.List.{list_all}
use Rattle.rows_table_map.specs.Lists.{strings}
use Rattle.rows_table_map.specs.MetadataViews.{names_view, remaining_names}
use Rattle.changes_tables.specs.UsedMetadata.{readable}
use Rattle.changes_tables.specs.NamesOfColumns.{is_name}
use Rattle.changes_tables.proofs.names.logged_names.Given as goal

abbrev pub invariant-loop-name : goal.invariant-loop-name
invariant-loop-name l = record {
  all : list_all is_name (remaining_names l.name-iterator) ≡ list_all is_name (strings (names_view l.fn.names));
  read : map (λ n. n.items) l.found.items ++ readable (remaining_names l.name-iterator) ≡ readable (strings (names_view l.fn.names));
}
