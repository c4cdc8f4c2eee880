use Rattle.std.proofs.Common.{◌∙◌, sym, ap, []}
use Rattle.rows_jsonb.specs.JsonDiffs.{diff_at}
use Rattle.rows_jsonb.proofs.DiffLemmas.{diff-shrinks}
use Rattle.rows_jsonb.proofs.ItemLemmas.{fault_more, one_bad, none_left, some_left, no_byte_left, item_after, no_item_after}
use Rattle.rows_jsonb.proofs.diff.check_json_diffs.Goals as goal

pub loop-rest-smaller : goal.loop-rest-smaller
loop-rest-smaller c =
    let x = item_after (diff_at c.loop-rest.rest.now) c.in-Ok.after.now c.in-Ok.ensures in
    diff-shrinks c.loop-rest.rest.now x.0 c.in-Ok.after.now x.1

pub loop-rest-preserved : goal.loop-rest-preserved
loop-rest-preserved c =
    let h = c.loop-rest.invariant in
    let x = item_after (diff_at c.loop-rest.rest.now) c.in-Ok.after.now c.in-Ok.ensures in
    let m = fault_more diff_at h.0 c.loop-rest.rest.now (x.0, c.in-Ok.after.now) (some_left c.loop-rest.rest.now c.is_empty.result c.is_empty.ensures c.loop-rest-test.true) h.1 x.1 (diff-shrinks c.loop-rest.rest.now x.0 c.in-Ok.after.now x.1) in
    (m.0, m.1, sym m.2 ∙ h.2)

pub returns-in-Err : goal.returns-in-Err
returns-in-Err c =
    let h = c.loop-rest.invariant in
    sym (ap (λ w. w.fault) (one_bad diff_at [] h.0 c.loop-rest.rest.now c.in-Err.fault (some_left c.loop-rest.rest.now c.is_empty.result c.is_empty.ensures c.loop-rest-test.true) h.1 (no_item_after (diff_at c.loop-rest.rest.now) c.in-Err.fault c.in-Err.ensures))) ∙ h.2

pub returns : goal.returns
returns c =
    let h = c.loop-rest.invariant in
    sym (ap (λ w. w.fault) (none_left diff_at [] h.0 c.loop-rest.rest.now (no_byte_left c.loop-rest.rest.now c.is_empty.result c.is_empty.ensures c.loop-rest-test.false))) ∙ h.2
