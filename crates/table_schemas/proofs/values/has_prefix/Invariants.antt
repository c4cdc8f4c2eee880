use Rattle.std.proofs.Common.{◌≡◌, drop}
use Rattle.table_schemas.specs.SchemaFields.{has_prefix}
use Rattle.table_schemas.proofs.values.has_prefix.Given as goal

abbrev pub invariant-loop-column : goal.invariant-loop-column
invariant-loop-column l = has_prefix (drop l.column-index l.key) ≡ has_prefix l.key
