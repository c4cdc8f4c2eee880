use Rattle.std.proofs.Common.{◌∙◌, ℕ, List, [], ◌∷◌, sym, ap, inr, map}
use Rattle.std.proofs.lemmas.List.{map-append}
use Rattle.rows_jsonb.specs.JsonDiffs.{Diff, diff_at}
use Rattle.rows_jsonb.specs.JsonDiffViews.{diff_view}
use Rattle.rows_jsonb.proofs.DiffLemmas.{diff-shrinks}
use Rattle.rows_jsonb.proofs.ItemLemmas.{one_more, one_bad, none_left, some_left, no_byte_left}
use Rattle.rows_jsonb.proofs.diff.json_diffs.Goals as goal

pub returns-in-Err-clause-err : goal.returns-in-Err-clause-err
returns-in-Err-clause-err c =
    let h = c.loop-rest.invariant in
    inr (sym (ap (λ w. w.fault) h.2) ∙ ap (λ w. w.fault) (one_bad diff_at (map diff_view c.loop-rest.diffs.items) h.0 c.loop-rest.rest.now c.in-Err.fault (some_left c.loop-rest.rest.now c.is_empty.result c.is_empty.ensures c.loop-rest-test.true) h.1 (sym c.in-Err.ensures)))

pub loop-rest-smaller : goal.loop-rest-smaller
loop-rest-smaller c = diff-shrinks c.loop-rest.rest.now (diff_view c.in-Ok.diff) c.in-Ok.after.now (sym c.in-Ok.ensures)

pub loop-rest-preserved : goal.loop-rest-preserved
loop-rest-preserved c =
    let h = c.loop-rest.invariant in
    let read = sym c.in-Ok.ensures in
    let split_diff = map diff_view c.loop-rest.diffs.items in
    let x : Diff × List ℕ = (diff_view c.in-Ok.diff, c.in-Ok.after.now) in
    let m = one_more diff_at split_diff h.0 c.loop-rest.rest.now x (some_left c.loop-rest.rest.now c.is_empty.result c.is_empty.ensures c.loop-rest-test.true) h.1 read (diff-shrinks c.loop-rest.rest.now x.0 x.1 read) in
    (m.0, m.1, rw (c.in_ok-push-in-Ok.ensures.items, map-append diff_view c.loop-rest.diffs.items (c.in-Ok.diff ∷ [])) (sym m.2 ∙ h.2))

pub returns-clause-ok : goal.returns-clause-ok
returns-clause-ok c =
    let h = c.loop-rest.invariant in
    sym h.2 ∙ none_left diff_at (map diff_view c.loop-rest.diffs.items) h.0 c.loop-rest.rest.now (no_byte_left c.loop-rest.rest.now c.is_empty.result c.is_empty.ensures c.loop-rest-test.false)
