use Rattle.std.proofs.Common.{◌∷◌, ◌++◌, Some, refl, ap, ◌∙◌}
use Rattle.std.proofs.Math.Seq.{take-length}
use Rattle.std.proofs.lemmas.Result.{on_ok_weaker}
use Rattle.feed_writers.specs.Quoting.{quoted}
use Rattle.feed_text.specs.DiffText.{operation_text}
use Rattle.feed_text.specs.FeedDocuments.{update_text}
use Rattle.feed_text.proofs.QuoteLemmas.{kept_more, kept_twice}
use Rattle.feed_text.proofs.DocumentLemmas.{three_written}
use Rattle.feed_text.proofs.feed_form.FeedFormUpdateForm.append_update.Goals as goal

pub returns-in-Some-clause-ok : goal.returns-in-Some-clause-ok
returns-in-Some-clause-ok g c =
    let old = c.args.out.now.items in
    on_ok_weaker c.append_after_space.result
    (λ e. let v = e.such in record {
      text = update_text c.args.operation c.args.path.now (Some v.0);
      such = (Some v.0, rw c.in-Some.is (v.0, v.1, refl), refl);
      appended =
          three_written old _ _ _ (operation_text c.args.operation) (quoted c.args.path.now) (32 ∷ v.0) (c.in_ok-extend_from_slice.ensures.items ∙ ap (λ w. old ++ w) c.operation_word.ensures) c.in_ok-quote.ensures.ok
          (e.appended ∙ ap (λ x. c.quote.new.out.items ++ x) v.2);
    })
    c.append_after_space.ensures.ok

pub returns-in-Some-clause-kept : goal.returns-in-Some-clause-kept
returns-in-Some-clause-kept g c =
    let worded = kept_more c.args.out.now.items _ _ _ (take-length c.args.out.now.items) c.in_ok-extend_from_slice.ensures.items in
    kept_twice c.args.out.now.items _ _ (kept_more _ _ _ _ worded c.in_ok-quote.ensures.ok) c.append_after_space.ensures.kept
