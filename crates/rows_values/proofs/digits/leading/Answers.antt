use Rattle.std.proofs.Common.{length, arith}
use Rattle.rows_values.proofs.GroupLemmas.{leading_is}
use Rattle.rows_values.proofs.digits.leading.Goals as goal

pub returns-then-other-byte-clause-count : goal.returns-then-other-byte-clause-count
returns-then-other-byte-clause-count c = leading_is c.args.byte c.args.bytes.now c.loop-i.i (omega arith) c.loop-i.invariant (λ _. c.if-other-byte.true)

pub returns-clause-count : goal.returns-clause-count
returns-clause-count c =
    leading_is c.args.byte c.args.bytes.now (length c.args.bytes.now) (omega arith) (λ k below. c.loop-i.invariant k (omega (arith, below))) (λ late. absurd (omega (arith, late)))
