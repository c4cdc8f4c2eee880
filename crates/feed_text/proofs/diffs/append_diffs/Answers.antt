use Rattle.std.proofs.Common.{◌≡◌, [], ◌∷◌, ◌+◌, length, take, drop, map, ap, sym, ◌∙◌, arith, rules, refl}
use Rattle.std.proofs.Math.Seq.{take-length}
use Rattle.std.proofs.lemmas.List.{drop_more, drop_all}
use Rattle.std.proofs.lemmas.Result.{IfOk-from_err}
use Rattle.rows_jsonb.specs.JsonDiffViews.{diff_view}
use Rattle.feed_text.proofs.QuoteLemmas.{kept_more, kept_twice}
use Rattle.feed_text.proofs.DocumentLemmas.{begun, one_more}
use Rattle.feed_text.proofs.DiffTextLemmas.{first_update, no_updates, no_first_text, no_later_text, no_diffs_text, ended, in_feed, first_nameless, later_nameless}
use Rattle.feed_text.proofs.diffs.append_diffs.Goals as goal

pub loop-diff-init : goal.loop-diff-init
loop-diff-init g c = record {
  written = λ ts h. (ts, h, begun c.args.out.now.items _ c.as_slice-separator.result.now g.F.DocumentForm.form.before_updates ts (search rules) (search rules));
  failed = λ e p. p;
  nameless = λ p. p;
  kept = kept_more c.args.out.now.items c.args.out.now.items _ _ (take-length c.args.out.now.items) c.in_ok-extend_from_slice.ensures.items;
}

pub returns-in_err-extend_from_slice-2-clause-kept : goal.returns-in_err-extend_from_slice-2-clause-kept
returns-in_err-extend_from_slice-2-clause-kept g c = ap (take (length c.args.out.now.items)) c.in_err-extend_from_slice-2.ensures.items ∙ c.loop-diff.invariant.kept

pub returns-in-Err-clause-err : goal.returns-in-Err-clause-err
returns-in-Err-clause-err g c =
    let xs = c.args.diffs.now in
    let i = c.loop-diff.diff-index in
    let x = c.diff-item.result in
    let here : drop i xs ≡ x ∷ drop (i + 1) xs = drop_more xs i x (omega arith) ∙ ap (λ y. y ∷ drop (i + 1) xs) (sym c.diff-item.is) in
    no_diffs_text (map diff_view xs) c.in-Err.fault (c.loop-diff.invariant.failed c.in-Err.fault (rw here (no_first_text (diff_view x) (map diff_view (drop (i + 1) xs)) c.in-Err.fault c.in-Err.ensures.err)))

pub returns-in-Err-clause-nameless : goal.returns-in-Err-clause-nameless
returns-in-Err-clause-nameless g c = λ same.
    let xs = c.args.diffs.now in
    let i = c.loop-diff.diff-index in
    let x = c.diff-item.result in
    let here : drop i xs ≡ x ∷ drop (i + 1) xs = drop_more xs i x (omega arith) ∙ ap (λ y. y ∷ drop (i + 1) xs) (sym c.diff-item.is) in
    c.loop-diff.invariant.nameless (rw here (first_nameless (diff_view x) (map diff_view (drop (i + 1) xs)) (c.in-Err.ensures.nameless same)))

pub returns-in-Err-clause-kept : goal.returns-in-Err-clause-kept
returns-in-Err-clause-kept g c = kept_twice c.args.out.now.items _ _ (kept_more _ _ _ _ c.loop-diff.invariant.kept c.in_ok-extend_from_slice-2.ensures.items) c.append_diff.ensures.kept

pub loop-diff-preserved : goal.loop-diff-preserved
loop-diff-preserved g c =
    let xs = c.args.diffs.now in
    let i = c.loop-diff.diff-index in
    let x = c.diff-item.result in
    let rest = map diff_view (drop (i + 1) xs) in
    let here : drop i xs ≡ x ∷ drop (i + 1) xs = drop_more xs i x (omega arith) ∙ ap (λ y. y ∷ drop (i + 1) xs) (sym c.diff-item.is) in
    let there : map diff_view (drop i xs) ≡ diff_view x ∷ rest = ap (map diff_view) here in
    let one = c.in-Ok.ensures.ok in
    let text = in_feed g.F.DocumentForm.form (diff_view x) one.text one.such in record {
      written = λ ts h.
          let all = c.loop-diff.invariant.written (one.text ∷ ts) (rw there (first_update g.F.DocumentForm.form (diff_view x) rest one.text ts one.such h)) in
          (all.0, all.1, one_more _ _ _ _ c.as_slice-separator-in-loop-diff.result.now _ _ _ _ c.in_ok-extend_from_slice-2.ensures.items one.appended (search rules) refl all.2);
      failed = λ e p. c.loop-diff.invariant.failed e (rw there (no_later_text (diff_view x) rest text.0 e text.1 p));
      nameless = λ p. c.loop-diff.invariant.nameless (rw there (later_nameless (diff_view x) rest text.0 text.1 p));
      kept = kept_twice c.args.out.now.items _ _ (kept_more _ _ _ _ c.loop-diff.invariant.kept c.in_ok-extend_from_slice-2.ensures.items) c.append_diff.ensures.kept;
    }

pub returns-in_err-extend_from_slice-3-clause-kept : goal.returns-in_err-extend_from_slice-3-clause-kept
returns-in_err-extend_from_slice-3-clause-kept g c = ap (take (length c.args.out.now.items)) c.in_err-extend_from_slice-3.ensures.items ∙ c.loop-diff.invariant.kept

pub returns-clause-ok : goal.returns-clause-ok
returns-clause-ok g c =
    let xs = c.args.diffs.now in
    let i = c.loop-diff.diff-index in
    let none : drop i xs ≡ [] = drop_all i xs (omega arith) in
    let nothing = no_updates g.F.DocumentForm.form (drop i xs) none in
    let all = c.loop-diff.invariant.written [] nothing in
    ended g.F.DocumentForm.form (map diff_view xs) all.0 c.args.out.now.items _ c.loop-diff.separator.now _ _ all.1 all.2 (search rules) c.in_ok-extend_from_slice-3.ensures.items

pub returns-clause-kept : goal.returns-clause-kept
returns-clause-kept g c = kept_more c.args.out.now.items _ _ _ c.loop-diff.invariant.kept c.in_ok-extend_from_slice-3.ensures.items

pub returns-in_err-extend_from_slice-clause-ok : goal.returns-in_err-extend_from_slice-clause-ok
returns-in_err-extend_from_slice-clause-ok g c = IfOk-from_err c.from_residual.result _ c.from_residual.ensures.0

pub returns-in_err-extend_from_slice-2-clause-ok : goal.returns-in_err-extend_from_slice-2-clause-ok
returns-in_err-extend_from_slice-2-clause-ok g c = IfOk-from_err c.from_residual-in_err-extend_from_slice-2.result _ c.from_residual-in_err-extend_from_slice-2.ensures.0

pub returns-in_err-extend_from_slice-3-clause-ok : goal.returns-in_err-extend_from_slice-3-clause-ok
returns-in_err-extend_from_slice-3-clause-ok g c = IfOk-from_err c.from_residual-in_err-extend_from_slice-3.result _ c.from_residual-in_err-extend_from_slice-3.ensures.0

pub returns-in_err-extend_from_slice-clause-kept : goal.returns-in_err-extend_from_slice-clause-kept
returns-in_err-extend_from_slice-clause-kept g c = ap (take (length c.args.out.now.items)) c.in_err-extend_from_slice.ensures.items ∙ take-length c.args.out.now.items
