use Rattle.std.proofs.Common.{◌≡◌, drop}
use Rattle.changes_character_sets.specs.Collations.{name_in}
use Rattle.changes_character_sets.proofs.collations.name_in.Given as goal

abbrev pub invariant-loop-collations : goal.invariant-loop-collations
invariant-loop-collations l = name_in (drop l.collations-index l.all) l.collation ≡ name_in l.all l.collation
