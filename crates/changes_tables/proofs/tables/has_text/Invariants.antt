use Rattle.std.proofs.Common.{◌≡◌, drop}
use Rattle.std.specs.List.{list_any}
use Rattle.changes_tables.specs.ShownTables.{is_type_of, text_types}
use Rattle.changes_tables.proofs.tables.has_text.Given as goal

abbrev pub invariant-loop-number : goal.invariant-loop-number
invariant-loop-number l = list_any (is_type_of text_types) (drop l.number-index l.types) ≡ list_any (is_type_of text_types) l.types
