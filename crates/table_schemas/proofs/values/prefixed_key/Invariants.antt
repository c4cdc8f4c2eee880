use Rattle.std.proofs.Common.{◌≡◌, take}
use Rattle.std.specs.List.{flat_map}
use Rattle.table_schemas.specs.SchemaFields.{prefixed_entry}
use Rattle.table_schemas.proofs.values.prefixed_key.Given as goal

abbrev pub invariant-loop-column : goal.invariant-loop-column
invariant-loop-column l = l.out.items ≡ flat_map prefixed_entry (take l.column-index l.key)
