use Rattle.std.proofs.Common.{pos, rules}
use Rattle.std.proofs.lemmas.Int.{wrapping_mul_is}
use Rattle.std.specs.Int.{w64}
use Rattle.rows_packed_times.proofs.packed.my_packed_time_make_int.Goals as goal

pub returns : goal.returns
returns c = wrapping_mul_is w64 c.args.i (pos 16777216) c.ranges.i (search rules)
