-- The kinds of fields so far, with one more field.
use Rattle.std.specs.Prelude.{◌||◌}
use Rattle.rows_table_map.specs.MetadataFields.{Field}
use Rattle.table_schemas.specs.LoggedFields.{has_signs, has_collations, has_names, has_members, has_key}
use Rattle.table_schemas.specs.declared.logged.Logged.{Logged}

abbrev pub with_kind : Logged → Field → Logged
with_kind l f = record { signs = has_signs f || l.signs; collations = has_collations f || l.collations; names = has_names f || l.names; members = has_members f || l.members; key = has_key f || l.key }
