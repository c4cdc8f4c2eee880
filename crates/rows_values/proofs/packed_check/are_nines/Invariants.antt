use Rattle.rows_values.specs.PackedTexts.{flipped_back}
use Rattle.rows_values.proofs.CheckLemmas.{AreNines}
use Rattle.rows_values.proofs.packed_check.are_nines.Given as goal

abbrev pub invariant-loop-i : goal.invariant-loop-i
invariant-loop-i l = AreNines l.i (flipped_back l.negative l.top l.groups)
