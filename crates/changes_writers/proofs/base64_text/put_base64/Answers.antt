use Rattle.std.proofs.Common.{◌≤◌, length, arith, rules}
use Rattle.changes_writers.proofs.Base64Lemmas.{twelve_more}
use Rattle.changes_writers.proofs.base64_text.put_base64.Goals as goal

pub loop-rest-preserved : goal.loop-rest-preserved
loop-rest-preserved c =
    let h = c.loop-rest.invariant in
    let b = c.split_at.ensures in
    let r = c.put_twelve-end.ensures in
    let long : 12 ≤ length c.loop-rest.rest.now = search rules in
    record {
      end = omega (arith, h.end, r.end, b.back_len, long);
      text = twelve_more _ _ _ c.loop-rest.rest.now _ long r.text b.back h.text;
    }
