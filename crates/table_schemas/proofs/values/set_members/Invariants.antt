use Rattle.std.proofs.Common.{◌≡◌, take}
use Rattle.std.specs.List.{flat_map}
use Rattle.table_schemas.specs.SchemaFields.{set_entry}
use Rattle.table_schemas.proofs.values.set_members.Given as goal

abbrev pub invariant-loop-column : goal.invariant-loop-column
invariant-loop-column l = l.out.items ≡ flat_map set_entry (take l.column-index l.columns)
