use Rattle.std.proofs.Common.{◌≡◌, drop}
use Rattle.table_schemas.specs.CompletedMaps.{tables_at}
use Rattle.table_schemas.specs.NamedTables.{table_named}
use Rattle.table_schemas.proofs.schemas.table_at.Given as goal

abbrev pub invariant-loop-from : goal.invariant-loop-from
invariant-loop-from l = table_named l.names (tables_at (drop l.from-index l.schemas) l.event) ≡ table_named l.names (tables_at l.schemas l.event)
