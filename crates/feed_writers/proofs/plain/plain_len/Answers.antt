use Rattle.std.proofs.Common.{arith}
use Rattle.feed_writers.proofs.PlainLemmas.{passed_more}
use Rattle.feed_writers.proofs.plain.plain_len.Goals as goal

pub loop-rest-preserved : goal.loop-rest-preserved
loop-rest-preserved c =
    let h = c.loop-rest.invariant in
    let b = c.split_at.ensures in
    record {
      few = omega (arith, h.few, b.back_len);
      plain = passed_more 8 c.args.bytes.now c.loop-rest.rest.now _ h.few h.plain c.loop-rest-test.true c.if-are_eight_plain.ensures b.back b.back_len;
    }

pub returns-then-are_four_plain-clause-value : goal.returns-then-are_four_plain-clause-value
returns-then-are_four_plain-clause-value c =
    let h = c.loop-rest.invariant in
    let b = c.split_at-then-are_four_plain.ensures in
    let e = passed_more 4 c.args.bytes.now c.loop-rest.rest.now _ h.few h.plain c.if-rest-ge4.true c.if-are_four_plain.ensures b.back b.back_len in
    omega (arith, e, h.few, b.back_len, c.short_plain_len.ensures.value)
