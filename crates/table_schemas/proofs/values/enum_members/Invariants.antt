use Rattle.std.proofs.Common.{◌≡◌, take}
use Rattle.std.specs.List.{flat_map}
use Rattle.table_schemas.specs.SchemaFields.{enum_entry}
use Rattle.table_schemas.proofs.values.enum_members.Given as goal

abbrev pub invariant-loop-column : goal.invariant-loop-column
invariant-loop-column l = l.out.items ≡ flat_map enum_entry (take l.column-index l.columns)
