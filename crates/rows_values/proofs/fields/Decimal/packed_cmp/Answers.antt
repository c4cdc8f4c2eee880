use Rattle.std.proofs.Common.{refl}
use Rattle.rows_values.proofs.FlipLemmas.{one_sign, minus_less, plus_greater, plus_beside, minus_beside, same_sign}
use Rattle.rows_values.proofs.fields.Decimal.packed_cmp.Goals as goal

pub returns-then-self : goal.returns-then-self
returns-then-self c = minus_less c.args.self.now c.args.other.now c.if-self.true (plus_beside c.args.self.now.negative c.args.other.now.negative c.if-self-other.true c.if-self.true)

pub returns-else-self : goal.returns-else-self
returns-else-self c = plus_greater c.args.self.now c.args.other.now c.if-self.false (minus_beside c.args.self.now.negative c.args.other.now.negative c.if-self-other.true c.if-self.false)

pub returns : goal.returns
returns c = one_sign c.args.self.now.negative c.args.self.now c.args.other.now _ _ _ refl (same_sign c.args.self.now.negative c.args.other.now.negative c.if-self-other.false) c.group_bytes.ensures c.group_bytes-2.ensures c.bytes_cmp.ensures
