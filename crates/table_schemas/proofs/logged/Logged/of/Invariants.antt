use Rattle.std.proofs.Common.{◌≡◌}
use Rattle.rows_table_map.specs.MapViews.{map_of}
use Rattle.rows_table_map.specs.MetadataViews.{fields_left}
use Rattle.table_schemas.specs.LoggedFields.{logged_kinds}
use Rattle.table_schemas.proofs.LoggedLemmas.{later_read}
use Rattle.table_schemas.proofs.logged.Logged.of.Given as goal

abbrev pub invariant-loop-field : goal.invariant-loop-field
invariant-loop-field l = later_read l.logged (fields_left l.field-iterator) ≡ logged_kinds (map_of l.map)
