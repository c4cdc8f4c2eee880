-- What is kept of a cell is determined by its bytes.
use Rattle.std.proofs.Common.{◌≡◌, ℕ, List, Ok, Err, refl, sym, ap, subst, ◌∙◌}
use Rattle.wire_buf.specs.Encoding.{Reads, Lacks, Alone}
use Rattle.rows_errors.specs.declared.fault.RowsError.{RowsError}
use Rattle.rows_values.specs.declared.rows.value.Value.{Value}
use Rattle.rows_values.specs.declared.rows.value.Value.TheVariants as plain
use Rattle.rows_jsonb.specs.JsonbValues.{JsonbValue}
use Rattle.rows_errors.specs.Readings.{Reading}
use Rattle.rows_jsonb.specs.Items.{Walked, all_found}
use Rattle.rows_jsonb.specs.JsonDiffs.{Diff}
use Rattle.rows_cells.specs.declared.format.CellFormat.{CellFormat}
use Rattle.rows_cells.specs.declared.binlog_value.BinlogValue.{BinlogValue}
use Rattle.rows_cells.specs.declared.binlog_value.BinlogValue.TheVariants as made
use Rattle.rows_cells.specs.CellValues.{CellValue, json, json_diffs}
use Rattle.rows_cells.specs.CellViews.{cell_value_of, Holds}
use Rattle.rows_cells.specs.Cells.{cell_at}
use Rattle.rows_cells.specs.BinlogValues as kept
use Rattle.rows_cells.specs.BinlogValues.{Kept, IsPlain, IsKeptOf, IsKeptCell, kept_view}
use Rattle.rows_cells.proofs.FieldLemmas.{ok_pair}
use Rattle.rows_cells.proofs.CellLemmas.{cell-is, cell-here}

-- no plain value is a JSON document or JSON diffs
plain_view : (w : Value) → IsPlain (cell_value_of w)
plain_view plain.NULL = tt
plain_view (plain.Bytes b) = tt
plain_view (plain.Int z) = tt
plain_view (plain.UInt n) = tt
plain_view (plain.Float n) = tt
plain_view (plain.Double n) = tt
plain_view (plain.Date a b c d e f g) = tt
plain_view (plain.Time a b c d e f) = tt

pub kept_of : (v : CellValue) (x : BinlogValue) → Holds v x → IsKeptOf v (kept_view x)
kept_of v (made.Value w) h = (h, plain_view w)
kept_of (json b) (made.Jsonb d) h = (b, refl, h)
kept_of (json_diffs b) (made.JsonDiff ds) h = (b, refl, h)
kept_of v (made.Jsonb d) h = absurd h
kept_of v (made.JsonDiff ds) h = absurd h

-- only one thing is kept of a cell
pub one_kept : (v : CellValue) (k m : Kept) → IsKeptOf v k → IsKeptOf v m → k ≡ m
one_kept v (kept.value a) (kept.value b) h i = ap (λ (w : CellValue). kept.value w) (sym h.0 ∙ i.0)
one_kept v (kept.value a) (kept.json d) h i = absurd (subst IsPlain (sym h.0 ∙ i.1) h.1)
one_kept v (kept.value a) (kept.json_diffs ds) h i = absurd (subst IsPlain (sym h.0 ∙ i.1) h.1)
one_kept v (kept.json d) (kept.value b) h i = absurd (subst IsPlain (sym i.0 ∙ h.1) i.1)
one_kept v (kept.json d) (kept.json e) h i =
    let same : h.0 ≡ i.0 = cc (sym h.1 ∙ i.1) in
    let found : ◌≡◌ {A = Reading JsonbValue} (Ok d) (Ok e) = sym h.2 ∙ rw same i.2 in
    ap (λ (w : JsonbValue). kept.json w) (cc found)
one_kept v (kept.json d) (kept.json_diffs es) h i = absurd (cc (sym h.1 ∙ i.1))
one_kept v (kept.json_diffs ds) (kept.value b) h i = absurd (subst IsPlain (sym i.0 ∙ h.1) i.1)
one_kept v (kept.json_diffs ds) (kept.json e) h i = absurd (cc (sym h.1 ∙ i.1))
one_kept v (kept.json_diffs ds) (kept.json_diffs es) h i =
    let same : h.0 ≡ i.0 = cc (sym h.1 ∙ i.1) in
    let found : all_found ds ≡ all_found es = sym h.2 ∙ rw same i.2 in
    ap (λ (w : Walked Diff). kept.json_diffs w.items) found

pub kept_read : (format : CellFormat) (v : CellValue) (k : Kept) (x r : List ℕ) → cell_at format x ≡ Ok (v, r) → IsKeptOf v k → Reads (Alone (IsKeptCell format)) k x r
kept_read format v k x r h i =
    let c = cell-is format x v r h in
    record {
      begins = record { bytes = c.0; joined = c.1; is = record { seen = v; cell_is = c.2; kept_is = i } };
      only = λ w s t.
          let other : cell_at format x ≡ Ok (t.is.seen, s) = ap (cell_at format) t.joined ∙ cell-here format t.is.seen t.bytes s t.is.cell_is in
          let p = ok_pair v r (t.is.seen, s) (sym h ∙ other) in
          (sym p.1, one_kept v k w i (subst (λ (u : CellValue). IsKeptOf u w) (sym p.0) t.is.kept_is));
    }

pub kept_failed : (format : CellFormat) (e : RowsError) (x : List ℕ) → cell_at format x ≡ Err e → Lacks (Alone (IsKeptCell format)) x
kept_failed format e x h k r t =
    let found : cell_at format x ≡ Ok (t.is.seen, r) = ap (cell_at format) t.joined ∙ cell-here format t.is.seen t.bytes r t.is.cell_is in
    let both : ◌≡◌ {A = Reading (CellValue × List ℕ)} (Err e) (Ok (t.is.seen, r)) = sym h ∙ found in
    absurd (cc both)
