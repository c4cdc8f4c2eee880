use Rattle.std.proofs.lemmas.Result.{on_ok_weaker, IfErr-weaker}
use Rattle.std.proofs.Common.{inr, refl, ap, sym, ◌∙◌, map}
use Rattle.rows_jsonb.specs.Items.{all_found}
use Rattle.rows_jsonb.specs.JsonDiffViews.{diff_view}
use Rattle.rows_cells.specs.CellViews.{cell_value}
use Rattle.feed_text.specs.CellText.{cell_value_text}
use Rattle.feed_text.proofs.CellLemmas.{appends, bytes_text, tree_written, decimal_appended, document_failed, diffs_appended, diffs_unwritten, diffs_failed, document_nameless, updates_nameless, updates_unread}
use Rattle.feed_text.proofs.cells.put_cell_ref.Goals as goal

pub returns-in-Bytes-clause-ok : goal.returns-in-Bytes-clause-ok
returns-in-Bytes-clause-ok g c =
    on_ok_weaker c.put_bytes_cell.result (λ e. appends c.args.column (cell_value_text (cell_value c.args.cell)) _ _ _ (bytes_text _ _ c.in-Bytes.ensures) e) c.put_bytes_cell.ensures.ok

pub returns-in-Decimal-clause-ok : goal.returns-in-Decimal-clause-ok
returns-in-Decimal-clause-ok g c =
    on_ok_weaker c.put_decimal_cell.result (λ e. decimal_appended c.args.column c.args.cell _ _ _ _ _ c.in-Decimal.ensures e) c.put_decimal_cell.ensures.ok

pub returns-in-Ok-clause-ok : goal.returns-in-Ok-clause-ok
returns-in-Ok-clause-ok g c =
    on_ok_weaker c.put_tree_cell.result (λ e. appends c.args.column (cell_value_text (cell_value c.args.cell)) _ _ _ (tree_written _ _ _ c.in-Json.ensures c.in-Ok.ensures.tree) e) c.put_tree_cell.ensures.ok

pub returns-in-Err-clause-err : goal.returns-in-Err-clause-err
returns-in-Err-clause-err g c = (inr (document_failed c.args.column _ _ _ c.in-Json.ensures c.in-Err.ensures.tree), refl)

pub returns-in-Ok-json_diffs-clause-ok : goal.returns-in-Ok-json_diffs-clause-ok
returns-in-Ok-json_diffs-clause-ok g c =
    on_ok_weaker c.put_diffs_cell.result (λ e. diffs_appended c.args.column _ _ (map diff_view c.deref.result.now) _ _ c.in-JsonDiffs.ensures (c.in-Ok-json_diffs.ensures.ok ∙ ap (λ ds. all_found (map diff_view ds)) (sym c.deref.ensures.value)) e) c.put_diffs_cell.ensures.ok

pub returns-in-Ok-json_diffs-clause-err : goal.returns-in-Ok-json_diffs-clause-err
returns-in-Ok-json_diffs-clause-err g c =
    IfErr-weaker c.put_diffs_cell.result _ _ (λ e p. diffs_unwritten c.args.column c.args.cell _ (map diff_view c.deref.result.now) _ _ e c.in-JsonDiffs.ensures (c.in-Ok-json_diffs.ensures.ok ∙ ap (λ ds. all_found (map diff_view ds)) (sym c.deref.ensures.value)) p) c.put_diffs_cell.ensures.err

pub returns-in-Err-json_diffs-clause-err : goal.returns-in-Err-json_diffs-clause-err
returns-in-Err-json_diffs-clause-err g c = (inr (diffs_failed c.args.column _ _ c.in-Err-json_diffs.fault c.in-JsonDiffs.ensures c.in-Err-json_diffs.ensures.err), refl)

pub returns-in-Err-clause-nameless : goal.returns-in-Err-clause-nameless
returns-in-Err-clause-nameless g c = λ same. document_nameless _ _ c.in-Json.ensures (c.in-Err.ensures.nameless same)

pub returns-in-Ok-json_diffs-clause-nameless : goal.returns-in-Ok-json_diffs-clause-nameless
returns-in-Ok-json_diffs-clause-nameless g c =
    IfErr-weaker c.put_diffs_cell.result _ _
    (λ e p same. updates_nameless _ _ (map diff_view c.deref.result.now) c.in-JsonDiffs.ensures (c.in-Ok-json_diffs.ensures.ok ∙ ap (λ ds. all_found (map diff_view ds)) (sym c.deref.ensures.value)) (p same))
    c.put_diffs_cell.ensures.nameless

pub returns-in-Err-json_diffs-clause-nameless : goal.returns-in-Err-json_diffs-clause-nameless
returns-in-Err-json_diffs-clause-nameless g c = λ same. updates_unread _ _ c.in-Err-json_diffs.fault c.in-JsonDiffs.ensures c.in-Err-json_diffs.ensures.err same
