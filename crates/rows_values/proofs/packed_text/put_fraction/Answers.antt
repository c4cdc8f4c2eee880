use Rattle.std.proofs.Common.{arith}
use Rattle.rows_values.proofs.WriteLemmas.{fraction_none, fraction_is}
use Rattle.rows_values.proofs.packed_text.put_fraction.Goals as goal

pub returns-then-count-eq0 : goal.returns-then-count-eq0
returns-then-count-eq0 c = fraction_none c.args.negative c.args.top c.args.count c.args.at c.args.bytes.now c.args.text.now c.if-count-eq0.true c.requires.size

pub returns : goal.returns
returns c = fraction_is _ c.args.count c.args.at c.put_byte-end.result _ _ _ _ c.if-count-eq0.false (omega arith) c.put_byte-end.ensures.end c.put_byte-end.ensures.text c.put_after.ensures
