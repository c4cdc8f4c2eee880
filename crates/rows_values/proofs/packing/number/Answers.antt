use Rattle.std.proofs.Common.{arith}
use Rattle.rows_values.proofs.GroupLemmas.{number_room}
use Rattle.rows_values.proofs.packing.number.Goals as goal

pub overflow_mul-number : goal.overflow_mul-number
overflow_mul-number c = let b = number_room c.args.digits.now c.loop-digit.digit-index (omega arith) c.requires.few c.requires.are in omega (arith, b, c.loop-digit.invariant)

pub overflow_add-number : goal.overflow_add-number
overflow_add-number c = let b = number_room c.args.digits.now c.loop-digit.digit-index (omega arith) c.requires.few c.requires.are in omega (arith, b, c.loop-digit.invariant, c.requires.are c.loop-digit.digit-index)
