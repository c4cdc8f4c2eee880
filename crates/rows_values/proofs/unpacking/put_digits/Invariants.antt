use Rattle.std.proofs.Common.{length}
use Rattle.rows_values.proofs.UnpackDigitsLemmas.{Fills}
use Rattle.rows_values.proofs.unpacking.put_digits.Given as goal

-- the digits from `at` on are written
abbrev pub invariant-loop-at : goal.invariant-loop-at
invariant-loop-at l = Fills l.number (length l.initial.positions) l.at l.left l.positions

abbrev pub decreases-loop-at : goal.decreases-loop-at
decreases-loop-at l = l.at
