use Rattle.std.proofs.Common.{◌/◌, ◌*◌, take}
use Rattle.rows_values.specs.Unpacked.{nines_digits}
use Rattle.rows_values.specs.PackedTexts.{Follows, flipped_back}
use Rattle.rows_values.proofs.packed_text.put_after.Given as goal

-- the digits of the groups so far
abbrev pub invariant-loop-i : goal.invariant-loop-i
invariant-loop-i l = Follows (nines_digits l.i (take (4 * (l.count / 9)) (flipped_back l.negative l.top l.bytes))) (9 * l.i) l.at l.fn.text l.text l.end
