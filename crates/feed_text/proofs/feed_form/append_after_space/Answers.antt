use Rattle.std.proofs.Common.{[], ◌∷◌, ◌++◌, length, take, refl, ap, ◌∙◌, append_assoc}
use Rattle.std.proofs.Math.Seq.{take-length}
use Rattle.std.proofs.lemmas.Result.{IfOk-from_err, IfErr-weaker, on_ok_weaker, err_from_is_err_and}
use Rattle.feed_text.proofs.QuoteLemmas.{kept_more, kept_twice}
use Rattle.feed_text.proofs.DocumentLemmas.{kept_one}
use Rattle.feed_text.proofs.feed_form.append_after_space.Goals as goal

pub returns-in_err-push-clause-ok : goal.returns-in_err-push-clause-ok
returns-in_err-push-clause-ok g c = IfOk-from_err c.from_residual.result _ c.from_residual.ensures.0

pub returns-in_err-push-clause-err : goal.returns-in_err-push-clause-err
returns-in_err-push-clause-err g c = let p = err_from_is_err_and c.from_residual.result c.from_residual.ensures.1 in rw p.1 p.2

pub returns-in_err-push-clause-kept : goal.returns-in_err-push-clause-kept
returns-in_err-push-clause-kept g c = ap (take (length c.args.out.now.items)) c.in_err-push.ensures.items ∙ take-length c.args.out.now.items

pub returns-clause-ok : goal.returns-clause-ok
returns-clause-ok g c =
    on_ok_weaker c.put_tree.result
    (λ e. record { text = 32 ∷ e.text; such = (e.text, e.such, refl); appended = e.appended ∙ ap (λ t. t ++ e.text) c.in_ok-push.ensures.items ∙ append_assoc c.args.out.now.items (32 ∷ []) e.text })
    c.put_tree.ensures.ok

pub returns-clause-err : goal.returns-clause-err
returns-clause-err g c = IfErr-weaker c.put_tree.result _ _ (λ e p. p.0) c.put_tree.ensures.err

pub returns-clause-kept : goal.returns-clause-kept
returns-clause-kept g c =
    let spaced = kept_more c.args.out.now.items _ _ _ (take-length c.args.out.now.items) c.in_ok-push.ensures.items in
    kept_twice c.args.out.now.items _ _ spaced (kept_one _ _ _ c.put_tree.result c.put_tree.ensures.ok c.put_tree.ensures.err)
