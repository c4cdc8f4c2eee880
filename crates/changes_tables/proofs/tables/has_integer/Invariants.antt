use Rattle.std.proofs.Common.{◌≡◌, drop}
use Rattle.std.specs.List.{list_any}
use Rattle.changes_tables.specs.ShownTables.{is_type_of, integer_types}
use Rattle.changes_tables.proofs.tables.has_integer.Given as goal

abbrev pub invariant-loop-number : goal.invariant-loop-number
invariant-loop-number l = list_any (is_type_of integer_types) (drop l.number-index l.types) ≡ list_any (is_type_of integer_types) l.types
