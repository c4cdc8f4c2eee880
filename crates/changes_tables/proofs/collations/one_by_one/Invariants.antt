use Rattle.std.proofs.Common.{◌≡◌, ◌++◌, map}
use Rattle.rows_errors.specs.Readings.{map_reading}
use Rattle.rows_table_map.specs.Lists.{numbers}
use Rattle.rows_table_map.specs.MetadataViews.{charset, charsets_view, remaining_charsets}
use Rattle.changes_tables.specs.UsedMetadata.{readable}
use Rattle.changes_tables.proofs.collations.one_by_one.Given as goal

abbrev pub invariant-loop-charset : goal.invariant-loop-charset
invariant-loop-charset l = l.found.items ++ readable (remaining_charsets l.charset-iterator) ≡ readable (map (map_reading charset) (numbers (charsets_view l.fn.charsets)))
