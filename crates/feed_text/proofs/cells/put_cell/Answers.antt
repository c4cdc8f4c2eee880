use Rattle.std.proofs.Common.{refl}
use Rattle.std.proofs.lemmas.Result.{on_ok_weaker, IfErr-weaker}
use Rattle.feed_text.specs.CellText.{kept_text}
use Rattle.feed_text.proofs.CellLemmas.{appends, kept_value, kept_tree, kept_failed, kept_diffs, kept_diffs_failed, kept_nameless, kept_updates_nameless}
use Rattle.feed_text.proofs.cells.put_cell.Goals as goal

pub returns-in-Value-clause-ok : goal.returns-in-Value-clause-ok
returns-in-Value-clause-ok g c =
    on_ok_weaker c.put_value_cell.result (λ e. appends c.args.column (kept_text c.args.value.now) _ _ _ (kept_value _ _ c.in-Value.is) e) c.put_value_cell.ensures.ok

pub returns-in-Ok-clause-ok : goal.returns-in-Ok-clause-ok
returns-in-Ok-clause-ok g c =
    on_ok_weaker c.put_tree_cell.result (λ e. appends c.args.column (kept_text c.args.value.now) _ _ _ (kept_tree _ _ _ c.in-Jsonb.is c.in-Ok.ensures.tree) e) c.put_tree_cell.ensures.ok

pub returns-in-Err-clause-err : goal.returns-in-Err-clause-err
returns-in-Err-clause-err g c = (kept_failed c.args.column _ _ _ c.in-Jsonb.is c.in-Err.ensures.tree, refl)

pub returns-in-JsonDiff-clause-ok : goal.returns-in-JsonDiff-clause-ok
returns-in-JsonDiff-clause-ok g c = on_ok_weaker c.put_diffs_cell.result (λ e. rw (kept_diffs _ _ c.in-JsonDiff.is, ← c.deref.ensures.value) e) c.put_diffs_cell.ensures.ok

pub returns-in-JsonDiff-clause-err : goal.returns-in-JsonDiff-clause-err
returns-in-JsonDiff-clause-err g c =
    IfErr-weaker c.put_diffs_cell.result _ _ (λ e p. kept_diffs_failed c.args.column _ _ _ _ e c.in-JsonDiff.is (rw (← c.deref.ensures.value) p)) c.put_diffs_cell.ensures.err

pub returns-in-Err-clause-nameless : goal.returns-in-Err-clause-nameless
returns-in-Err-clause-nameless g c = λ same. kept_nameless _ _ c.in-Jsonb.is (c.in-Err.ensures.nameless same)

pub returns-in-JsonDiff-clause-nameless : goal.returns-in-JsonDiff-clause-nameless
returns-in-JsonDiff-clause-nameless g c =
    IfErr-weaker c.put_diffs_cell.result _ _ (λ e p same. kept_updates_nameless _ _ c.in-JsonDiff.is (rw (← c.deref.ensures.value) (p same))) c.put_diffs_cell.ensures.nameless
