use Rattle.std.proofs.Common.{◌≡◌, take}
use Rattle.std.specs.List.{flat_map}
use Rattle.table_schemas.specs.SchemaFields.{sign_entry}
use Rattle.table_schemas.proofs.values.sign_bits.Given as goal

abbrev pub invariant-loop-column : goal.invariant-loop-column
invariant-loop-column l = l.bits.items ≡ flat_map sign_entry (take l.column-index l.columns)
