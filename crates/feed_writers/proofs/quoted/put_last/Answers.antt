use Rattle.std.proofs.Common.{◌≤◌, ◌∙◌, length, arith, rules}
use Rattle.std.proofs.lemmas.List.{length-take-le}
use Rattle.feed_writers.proofs.BlockLemmas.{padded, run_beyond, run_within, run_more, rest_more}
use Rattle.feed_writers.proofs.quoted.put_last.Goals as goal

pub overflow_sub-result-then-len-rest : goal.overflow_sub-result-then-len-rest
overflow_sub-result-then-len-rest c =
    let r = c.put_run-next in
    let room : r.result.0 ≤ length r.new.text = search rules in
    let all = c.if-len-rest.true in
    (padded r.result.0 r.result.1 _ r.new.text _ c.loop-text.rest.now all room (run_beyond r.result.1 c.next_bytes.result c.loop-text.rest.now r.ensures.few all c.next_bytes.ensures.padded) r.ensures.text).within

pub returns-then-len-rest-clause-most : goal.returns-then-len-rest-clause-most
returns-then-len-rest-clause-most c =
    let r = c.put_run-next in
    let room : r.result.0 ≤ length r.new.text = search rules in
    let all = c.if-len-rest.true in
    let p = (padded r.result.0 r.result.1 _ r.new.text _ c.loop-text.rest.now all room (run_beyond r.result.1 c.next_bytes.result c.loop-text.rest.now r.ensures.few all c.next_bytes.ensures.padded) r.ensures.text).most in
    let room_before : c.loop-text.end ≤ length c.loop-text.text = search rules in
    let long = length-take-le c.loop-text.end c.loop-text.text room_before in
    omega (arith, p, long, c.loop-text.invariant.most)

pub returns-then-len-rest-clause-text : goal.returns-then-len-rest-clause-text
returns-then-len-rest-clause-text c =
    let r = c.put_run-next in
    let room : r.result.0 ≤ length r.new.text = search rules in
    let all = c.if-len-rest.true in
    (padded r.result.0 r.result.1 _ r.new.text _ c.loop-text.rest.now all room (run_beyond r.result.1 c.next_bytes.result c.loop-text.rest.now r.ensures.few all c.next_bytes.ensures.padded) r.ensures.text).text
    ∙ c.loop-text.invariant.text

pub loop-text-preserved : goal.loop-text-preserved
loop-text-preserved c =
    let h = c.loop-text.invariant in
    let b = c.split_at.ensures in
    let r = c.put_run-next in
    let n = c.next_bytes.ensures in
    record {
      most = omega (arith, h.most, r.ensures.most, b.back_len);
      few = omega (arith, h.few, b.back_len);
      rest = rest_more r.result.1 c.args.bytes.now c.loop-text.rest.now _ h.few h.rest b.back b.back_len;
      text = run_more r.result.1 _ _ _ c.next_bytes.result c.loop-text.rest.now _ r.ensures.text (run_within r.result.1 c.next_bytes.result c.loop-text.rest.now r.ensures.few (omega (arith, c.if-len-rest.false)) n.full n.padded) b.back h.text;
    }
