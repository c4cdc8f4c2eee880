use Rattle.std.proofs.Common.{arith}
use Rattle.changes_writers.proofs.StringLemmas.{run_more}
use Rattle.changes_writers.proofs.strings.put_string_content.Goals as goal

pub loop-rest-preserved : goal.loop-rest-preserved
loop-rest-preserved c =
    let h = c.loop-rest.invariant in
    let b = c.split_at.ensures in
    let r = c.put_run-next.ensures in
    record {
      most = omega (arith, h.most, r.most, b.back_len);
      text = run_more c.put_run-next.result.1 _ _ _ c.loop-rest.rest.now _ r.text b.back h.text;
    }
