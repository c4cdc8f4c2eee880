use Rattle.std.proofs.Common.{arith}
use Rattle.std.proofs.lemmas.List.{take-take}
use Rattle.feed_writers.proofs.BlockLemmas.{run_more, rest_more}
use Rattle.feed_writers.proofs.quoted.put_long.Goals as goal

pub loop-rest-preserved : goal.loop-rest-preserved
loop-rest-preserved c =
    let h = c.loop-rest.invariant in
    let b = c.split_at.ensures in
    let r = c.put_run-next.ensures in
    record {
      most = omega (arith, h.most, r.most, b.back_len);
      few = omega (arith, h.few, b.back_len);
      rest = rest_more c.put_run-next.result.1 c.args.bytes.now c.loop-rest.rest.now _ h.few h.rest b.back b.back_len;
      text = run_more c.put_run-next.result.1 _ _ _ _ c.loop-rest.rest.now _ r.text (take-take c.put_run-next.result.1 16 c.loop-rest.rest.now r.few) b.back h.text;
    }
