use Rattle.std.proofs.Common.{refl, ap, sym, ◌∙◌, map}
use Rattle.std.proofs.lemmas.Result.{on_ok_weaker}
use Rattle.rows_jsonb.specs.Items.{all_found}
use Rattle.rows_jsonb.specs.JsonDiffViews.{diff_view}
use Rattle.feed_text.proofs.CellLemmas.{updates_failed}
use Rattle.feed_text.proofs.buffer.TextBuffer.put_updates_in.Goals as goal

pub returns-in-Ok-clause-ok : goal.returns-in-Ok-clause-ok
returns-in-Ok-clause-ok g c =
    on_ok_weaker c.put_all_diffs.result
    (λ e. record { updates = map diff_view c.deref.result.now; found = c.in-Ok.ensures.ok ∙ ap (λ ds. all_found (map diff_view ds)) (sym c.deref.ensures.value); text = e })
    c.put_all_diffs.ensures.ok

pub returns-in-Err-clause-err : goal.returns-in-Err-clause-err
returns-in-Err-clause-err g c = (updates_failed c.args.bytes.now c.in-Err.fault c.in-Err.ensures.err, refl)
