-- The JSON of the cell that bytes begin with.
use Rattle.std.proofs.Common.{◌≡◌, ℕ, ℤ, Bool, subst, List, [], ◌++◌, take, length, false, Ok, inr, sym, ap, ◌∙◌}
use Rattle.std.proofs.Math.Seq.{take-length}
use Rattle.rows_errors.specs.declared.fault.RowsError.{RowsError}
use Rattle.rows_errors.specs.Readings.{Reading}
use Rattle.rows_jsonb.specs.DocumentTrees.{document_tree}
use Rattle.rows_jsonb.specs.JsonTrees.{Tree}
use Rattle.rows_cells.specs.declared.format.CellFormat.{CellFormat}
use Rattle.rows_cells.specs.CellValues.{CellValue, null, bytes, int, uint, float, double, date, time, json, json_diffs}
use Rattle.rows_cells.specs.Cells.{cell_at}
use Rattle.feed_text.specs.CellText.{label, cell_value_text, tree_text, cell_diffs_text, IsTextError}
use Rattle.feed_text.specs.DirectText.{WritesDocument, IsDocumentError}
use Rattle.feed_text.specs.DocumentForms.{AppendsUpdates}
use Rattle.feed_text.specs.JsonText.{document_text}
use Rattle.feed_text.proofs.CellLemmas.{no_more}
use Rattle.feed_text.proofs.QuoteLemmas.{kept_more}
use Rattle.changes_cells.specs.JsonDocuments.{json_form}
use Rattle.changes_tables.specs.ShownColumns.{ColumnView}
use Rattle.changes_tables.specs.declared.columns.Shown.TheVariants.{Plain}
use Rattle.changes_cells.specs.CellJson.{IsCellJson, IsIntegerJson}
use Rattle.changes_cells.specs.FieldJson.{IsInteger, IsIntegerAt, WritesSuch, WritesCell, AppendsCell, IsFieldError}

-- any column
pub any_column : ColumnView
any_column = record { key = []; shown = Plain; members = [] }

-- what was written at the start of a buffer was appended to a text
pub appended_from : (c : ColumnView) (f : CellFormat) (b short room old new rest : List ℕ) (end : ℕ) → WritesCell c false f b 0 room short end rest → new ≡ old ++ take end short → AppendsCell c false f b old new rest
appended_from c f b short room old new rest end w is = record {
  value = w.value;
  read = w.read;
  text = record { text = w.text.text; such = w.text.such; appended = is ∙ ap (λ (t : List ℕ). old ++ t) w.text.written };
}

-- ---- integers
integer_cell : (c : ColumnView) (f : CellFormat) (z : ℤ) (v : CellValue) (x : List ℕ) → IsInteger z v → IsIntegerJson c z x → IsCellJson c f v x
unfolding IsCellJson IsIntegerJson
integer_cell c f z (int y) x e h = subst (λ k. IsIntegerJson c k x) (sym e) h
integer_cell c f z (uint n) x e h = subst (λ k. IsIntegerJson c k x) (sym e) h
integer_cell c f z null x e h = absurd e
integer_cell c f z (bytes b) x e h = absurd e
integer_cell c f z (float n) x e h = absurd e
integer_cell c f z (double n) x e h = absurd e
integer_cell c f z (date year month day hour minute second micros) x e h = absurd e
integer_cell c f z (time negative days hours minutes seconds micros) x e h = absurd e
integer_cell c f z (json b) x e h = absurd e
integer_cell c f z (json_diffs b) x e h = absurd e

pub integer_written : (c : ColumnView) (is_null : Bool) (f : CellFormat) (b old new rest : List ℕ) (z : ℤ) (at end : ℕ) → is_null ≡ false → IsIntegerAt f b z rest → WritesSuch (IsIntegerJson c z) at old new end → WritesCell c is_null f b at old new end rest
integer_written c is_null f b old new rest z at end full h w = record {
  value = h.value;
  read = rw full h.read;
  text = record { text = w.text; such = integer_cell c f z h.value w.text h.is w.such; most = w.most; written = w.written };
}

-- ---- JSON documents
abbrev Reads : CellFormat → List ℕ → CellValue → List ℕ → Type 0
Reads f b v rest = (let read : Reading (CellValue × List ℕ) = Ok (v, rest) in read ≡ cell_at f b)

pub document_appended : (c : ColumnView) (f : CellFormat) (b old new rest d : List ℕ) → Reads f b (json d) rest → WritesDocument json_form (document_tree d) old new → AppendsCell c false f b old new rest
unfolding IsCellJson
document_appended c f b old new rest d h w = record {
  value = json d;
  read = sym h;
  text = record { text = w.text.text; such = record { tree = w.tree; is = w.is; text = w.text.such }; appended = w.text.appended };
}

pub document_fails : (e : RowsError) (f : CellFormat) (b old new rest d : List ℕ) → Reads f b (json d) rest → IsDocumentError e (document_tree d) old new → IsFieldError e false f b
unfolding cell_value_text
document_fails e f b old new rest d h w =
    let text = λ (t : Tree). (let shown : Reading (List ℕ) = Ok (document_text t) in shown) in
    inr (inr (json d, rest, sym h, λ column. no_more (λ (t : List ℕ). t) e (tree_text (document_tree d)) (λ t. Ok (label column ++ t)) (no_more (λ (t : Tree). t) e (document_tree d) text w.0)))

pub updates_appended : (c : ColumnView) (f : CellFormat) (b old new rest d : List ℕ) → Reads f b (json_diffs d) rest → AppendsUpdates json_form d old new → AppendsCell c false f b old new rest
unfolding IsCellJson
updates_appended c f b old new rest d h w = record {
  value = json_diffs d;
  read = sym h;
  text = record { text = w.text.text; such = record { updates = w.updates; are = w.found; text = w.text.such }; appended = w.text.appended };
}

pub updates_fail : (e : RowsError) (f : CellFormat) (b old new rest d : List ℕ) → Reads f b (json_diffs d) rest → IsTextError e (cell_diffs_text d) old new → IsFieldError e false f b
unfolding cell_value_text
updates_fail e f b old new rest d h w = inr (inr (json_diffs d, rest, sym h, λ column. no_more (λ (t : List ℕ). t) e (cell_diffs_text d) (λ t. Ok (label column ++ t)) w.0))

-- ---- the text before is unchanged
pub kept_appended : (old new more : List ℕ) → new ≡ old ++ more → take (length old) new ≡ old
kept_appended old new more is = kept_more old old new more (take-length old) is

pub kept_unchanged : (old new : List ℕ) → new ≡ old → take (length old) new ≡ old
kept_unchanged old new is = ap (take (length old)) is ∙ take-length old
