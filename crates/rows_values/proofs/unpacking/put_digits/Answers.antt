use Rattle.std.proofs.Common.{arith, length}
use Rattle.rows_values.proofs.UnpackDigitsLemmas.{fills_more, fills_all}
use Rattle.rows_values.proofs.unpacking.put_digits.Goals as goal

pub loop-at-preserved : goal.loop-at-preserved
loop-at-preserved c = fills_more c.args.number (length c.args.positions.now) c.loop-at.at c.loop-at.left c.loop-at.positions (omega arith) c.loop-at.invariant

pub returns-clause-digits : goal.returns-clause-digits
returns-clause-digits c = fills_all c.args.number (length c.args.positions.now) c.loop-at.at c.loop-at.left c.loop-at.positions (omega arith) c.loop-at.invariant
