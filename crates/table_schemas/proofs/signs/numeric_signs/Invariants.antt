use Rattle.std.proofs.Common.{◌≡◌, ◌≤◌, ◌++◌, drop}
use Rattle.table_schemas.specs.YearSigns.{numeric_signs}
use Rattle.table_schemas.proofs.SignLemmas.{signs_left}
use Rattle.table_schemas.proofs.signs.numeric_signs.Given as goal

abbrev pub invariant-loop-number : goal.invariant-loop-number
invariant-loop-number l = (l.next ≤ l.number-index) × (l.signs.items ++ signs_left (drop l.number-index l.types) l.value l.next ≡ numeric_signs l.types l.value)
