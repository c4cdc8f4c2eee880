use Rattle.std.proofs.Common.{◌≡◌}
use Rattle.rows_table_map.specs.MapViews.{map_of}
use Rattle.rows_table_map.specs.MetadataViews.{fields_left}
use Rattle.changes_tables.specs.UsedMetadata.{readable, used_metadata}
use Rattle.changes_tables.specs.FieldViews.{fields_view}
use Rattle.changes_tables.proofs.MetadataLemmas.{later}
use Rattle.changes_tables.proofs.fields.TableFields.of.Given as goal

abbrev pub invariant-loop-field : goal.invariant-loop-field
invariant-loop-field l = later (fields_view l.found) (readable (fields_left l.field-iterator)) ≡ used_metadata (map_of l.map)
