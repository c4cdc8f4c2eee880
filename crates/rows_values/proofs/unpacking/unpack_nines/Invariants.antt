use Rattle.std.proofs.Common.{◌*◌, take}
use Rattle.rows_values.specs.Digits.{nines_bytes}
use Rattle.rows_values.specs.Steps.{AppendsDigits}
use Rattle.rows_values.specs.PackedTexts.{flipped_back}
use Rattle.rows_values.proofs.unpacking.unpack_nines.Given as goal

-- the digits of the groups so far
abbrev pub invariant-loop-i : goal.invariant-loop-i
invariant-loop-i l = AppendsDigits (nines_bytes l.i) (9 * l.i) (take (4 * l.i) (flipped_back l.negative l.top l.bytes)) l.initial.digits.items l.digits.items
