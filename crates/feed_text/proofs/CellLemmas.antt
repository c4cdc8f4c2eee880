-- The texts of cells: what is appended, and why nothing is.
use Rattle.std.proofs.Common.{◌≡◌, ℕ, List, ◌++◌, Option, Some, None, Ok, Err, refl, sym, ap, ◌∙◌, inl, inr}
use Rattle.std.specs.Prelude.{◌⊎◌, map}
use Rattle.std.proofs.Common.{Vec, Global}
use Rattle.std.specs.Option.{option_map}
use Rattle.std.specs.Borrow.{Bor}
use Rattle.rows_values.specs.declared.rows.value.Value.{Value}
use Rattle.rows_values.specs.declared.rows.value.Value.TheVariants.{NULL, Bytes, Int, UInt, Float, Double, Date, Time}
use Rattle.rows_errors.specs.declared.fault.RowsError.{RowsError}
use Rattle.rows_errors.specs.declared.fault.RowsError.TheVariants.{EndOfBody, RemainingBytes, UnknownNumber, Metadata, Cell, Jsonb, Decimal, EmptyPair, Memory, Read}
use Rattle.rows_values.specs.Unpacked.{packed_text}
use Rattle.rows_jsonb.specs.JsonTrees.{Tree}
use Rattle.rows_jsonb.specs.JsonbValues.{document}
use Rattle.rows_errors.specs.Readings.{Reading, ◌>>=◌}
use Rattle.rows_jsonb.specs.JsonbValues.{JsonbValue as Seen}
use Rattle.rows_jsonb.specs.JsonbViews.{jsonb_value}
use Rattle.rows_jsonb.specs.declared.value.Value.{Value as JsonbValue}
use Rattle.rows_cells.specs.declared.binlog_value.BinlogValue.{BinlogValue}
use Rattle.rows_cells.specs.declared.binlog_value.BinlogValue.TheVariants as made
use Rattle.rows_jsonb.specs.JsonDiffs.{IsJsonbFault, Diff, diff_at}
use Rattle.rows_jsonb.specs.JsonDiffViews.{diff_view}
use Rattle.rows_jsonb.specs.declared.diff.JsonDiff.{JsonDiff}
use Rattle.rows_jsonb.specs.Items.{items_at, all_found}
use Rattle.rows_jsonb.proofs.DiffLemmas.{diffs_fault}
use Rattle.feed_text.specs.DiffText.{diffs_text}
use Rattle.rows_jsonb.specs.JsonParsing.{Parses, HasNamelessFault}
use Rattle.rows_jsonb.specs.DocumentTrees.{document_tree, tree_in}
use Rattle.rows_jsonb.specs.declared.dom.JsonDom.{JsonDom}
use Rattle.rows_jsonb.specs.JsonTreeViews.{view}
use Rattle.rows_jsonb.proofs.SoundLemmas.{document_fault}
use Rattle.rows_cells.specs.CellValues.{CellValue, null, bytes, int, uint, float, double, date, time, json, json_diffs}
use Rattle.rows_cells.specs.CellViews.{cell_value, text_or_none, cell_value_of, Holds}
use Rattle.rows_cells.specs.declared.cell.CellRef.{CellRef}
use Rattle.rows_cells.specs.declared.cell.CellRef.TheVariants as ref
use Rattle.feed_writers.specs.Quoting.{quoted}
use Rattle.feed_text.specs.DecimalText.{quoted_decimal, IsDecimalError}
use Rattle.feed_text.specs.JsonText.{document_text}
use Rattle.feed_text.specs.ValueText.{value_text}
use Rattle.feed_text.specs.CellText.{label, cell_diffs_text, cell_value_text, tree_text, cell_text, kept_text, kept_cell_text, Appends, AppendsLabeled, AppendsLabeledReading, IsTextError, PacksNone, IsCellError}
use Rattle.feed_text.specs.NamelessFaults.{IsNamelessDocument, HasNamelessDiff, HasNamelessContent, HasNamelessPart}

-- the text was appended
pub appends : (column : ℕ) (found : Reading (List ℕ)) (text old new : List ℕ) → found ≡ Ok text → new ≡ old ++ (label column ++ text) → Appends (found >>= λ t. Ok (label column ++ t)) old new
appends column found text old new h is = rw h is

pub bytes_text : (v : CellValue) (b : List ℕ) → v ≡ bytes b → cell_value_text v ≡ Ok (quoted b)
unfolding cell_value_text
bytes_text v b h = rw h refl

pub json_text : (v : CellValue) (b : List ℕ) → v ≡ json b → cell_value_text v ≡ tree_text (document_tree b)
unfolding cell_value_text
json_text v b h = rw h refl

pub tree_written : (v : CellValue) (b : List ℕ) (t : Tree) → v ≡ json b → document_tree b ≡ Ok t → cell_value_text v ≡ Ok (document_text t)
tree_written v b t h e = json_text v b h ∙ ap tree_text e

packed_appended : (column : ℕ) (o : Option (List ℕ)) (old new : List ℕ) → AppendsLabeled column (option_map quoted o) old new → Appends (cell_text column (bytes (text_or_none o))) old new
unfolding cell_value_text
packed_appended column None old new h = absurd h
packed_appended column (Some t) old new h = h

pub decimal_appended : (column : ℕ) (cell : CellRef) (precision scale : ℕ) (b : Bor (List ℕ)) (old new : List ℕ) → cell ≡ ref.Decimal precision scale b
    → AppendsLabeled column (quoted_decimal precision scale b.now) old new → Appends (cell_text column (cell_value cell)) old new
decimal_appended column cell precision scale b old new h is = rw h (packed_appended column (packed_text precision scale b.now) old new is)

unquoted_none : (o : Option (List ℕ)) → (let none : Option (List ℕ) = None in option_map quoted o ≡ none → o ≡ none)
unquoted_none None h = refl
unquoted_none (Some t) h = cc

pub decimal_failed : (column : ℕ) (cell : CellRef) (precision scale : ℕ) (b : Bor (List ℕ)) (e : RowsError) (old new : List ℕ) → cell ≡ ref.Decimal precision scale b
    → IsDecimalError e (quoted_decimal precision scale b.now) old new → IsCellError e cell (cell_text column (cell_value cell)) old new
decimal_failed column cell precision scale b e old new h r = (why r.cause, r.unchanged)
  where
    why : (e ≡ Memory) ⊎ ((e ≡ Decimal) × (let none : Option (List ℕ) = None in quoted_decimal precision scale b.now ≡ none)) → ((e ≡ Decimal) × PacksNone cell) ⊎ Parses (λ (t : List ℕ). t) (Err e) (cell_text column (cell_value cell))
    why (inl m) = inr (rw m tt)
    why (inr d) = inl (d.0, rw h (unquoted_none (packed_text precision scale b.now) d.1))

pub value_text_is : (v : Value) → cell_value_text (cell_value_of v) ≡ Ok (value_text v)
unfolding cell_value_text value_text
value_text_is NULL = refl
value_text_is (Bytes b) = refl
value_text_is (Int z) = refl
value_text_is (UInt n) = refl
value_text_is (Float bits) = refl
value_text_is (Double bits) = refl
value_text_is (Date year month day hour minute second micros) = refl
value_text_is (Time negative days hours minutes seconds micros) = refl

-- an error passes through each step
pub no_more : {A B C : Type 0} (f : A → B) (e : RowsError) (found : Reading B) (next : B → Reading C) → Parses f (Err e) found → Parses (λ (c : C). c) (Err e) (found >>= next)
no_more f Memory found next h = tt
no_more f (Jsonb None) (Ok x) next h = absurd h
no_more f (Jsonb None) (Err k) next h = tt
no_more f (Jsonb (Some j)) found next h = rw h refl
no_more f EndOfBody found next h = absurd h
no_more f RemainingBytes found next h = absurd h
no_more f UnknownNumber found next h = absurd h
no_more f Metadata found next h = absurd h
no_more f Cell found next h = absurd h
no_more f Decimal found next h = absurd h
no_more f EmptyPair found next h = absurd h
no_more f Read found next h = absurd h

-- a JSON document that can't be parsed has no text
pub no_text : (column : ℕ) (e : RowsError) (found : Reading Tree) → Parses view (Err e) found → Parses (λ (t : List ℕ). t) (Err e) (tree_text found >>= λ t. Ok (label column ++ t))
no_text column e found h =
    no_more (λ (t : List ℕ). t) e (tree_text found) (λ t. Ok (label column ++ t)) (no_more view e found (λ t. Ok (document_text t)) h)

-- a JSON document that can't be read can't be parsed
pub no_document : (s : List ℕ) (e : RowsError) → (let fault : Reading JsonDom = Err e in document s ≡ Err e → Parses view fault (document_tree s))
no_document s e h = rw h (own e (document_fault s e h))
  where
    own : (k : RowsError) → IsJsonbFault k → (let fault : Reading JsonDom = Err k in let found : Reading Tree = Err k in Parses view fault found)
    own (Jsonb None) j = tt
    own (Jsonb (Some x)) j = refl
    own Memory j = absurd j
    own EndOfBody j = absurd j
    own RemainingBytes j = absurd j
    own UnknownNumber j = absurd j
    own Metadata j = absurd j
    own Cell j = absurd j
    own Decimal j = absurd j
    own EmptyPair j = absurd j
    own Read j = absurd j

pub nameless_bytes : (b : List ℕ) (e : RowsError) → (let fault : Reading Seen = Err e in document b ≡ fault) → e ≡ Jsonb None → IsNamelessDocument b
nameless_bytes b e h same = inl (h ∙ rw same refl)

pub document_failed : (column : ℕ) (v : CellValue) (b : List ℕ) (e : RowsError) → (let fault : Reading JsonDom = Err e in let failed : Reading (List ℕ) = Err e in v ≡ json b → Parses view fault (document_tree b) → Parses (λ (t : List ℕ). t) failed (cell_text column v))
document_failed column v b e h p = rw (json_text v b h) (no_text column e (document_tree b) p)

-- ---- owned values

pub kept_value : (b : BinlogValue) (v : Value) → b ≡ made.Value v → kept_text b ≡ Ok (value_text v)
unfolding kept_text
kept_value b v h = ap kept_text h ∙ value_text_is v

kept_document : (b : BinlogValue) (d : JsonbValue) → b ≡ made.Jsonb d → kept_text b ≡ tree_text (tree_in (jsonb_value d))
unfolding kept_text
kept_document b d h = rw h refl

pub kept_tree : (b : BinlogValue) (d : JsonbValue) (t : Tree) → b ≡ made.Jsonb d → tree_in (jsonb_value d) ≡ Ok t → kept_text b ≡ Ok (document_text t)
kept_tree b d t h e = kept_document b d h ∙ ap tree_text e

pub kept_failed : (column : ℕ) (b : BinlogValue) (d : JsonbValue) (e : RowsError) → (let fault : Reading JsonDom = Err e in let failed : Reading (List ℕ) = Err e in b ≡ made.Jsonb d → Parses view fault (tree_in (jsonb_value d)) → Parses (λ (t : List ℕ). t) failed (kept_cell_text column b))
kept_failed column b d e h p = rw (kept_document b d h) (no_text column e (tree_in (jsonb_value d)) p)

-- the value that was made from a cell has the cell's text
pub same_text : (v : CellValue) (b : BinlogValue) → Holds v b → kept_text b ≡ cell_value_text v
unfolding kept_text cell_value_text
same_text v (made.Value w) h = ap cell_value_text (sym h)
same_text (json b) (made.Jsonb d) h = ap (λ (o : Reading Seen). tree_text (o >>= tree_in)) (sym h)
same_text null (made.Jsonb d) h = absurd h
same_text (bytes b) (made.Jsonb d) h = absurd h
same_text (int z) (made.Jsonb d) h = absurd h
same_text (uint n) (made.Jsonb d) h = absurd h
same_text (float n) (made.Jsonb d) h = absurd h
same_text (double n) (made.Jsonb d) h = absurd h
same_text (date year month day hour minute second micros) (made.Jsonb d) h = absurd h
same_text (time negative days hours minutes seconds micros) (made.Jsonb d) h = absurd h
same_text (json_diffs b) (made.JsonDiff ds) h = rw h refl
same_text null (made.JsonDiff ds) h = absurd h
same_text (bytes b) (made.JsonDiff ds) h = absurd h
same_text (int z) (made.JsonDiff ds) h = absurd h
same_text (uint n) (made.JsonDiff ds) h = absurd h
same_text (float n) (made.JsonDiff ds) h = absurd h
same_text (double n) (made.JsonDiff ds) h = absurd h
same_text (date year month day hour minute second micros) (made.JsonDiff ds) h = absurd h
same_text (time negative days hours minutes seconds micros) (made.JsonDiff ds) h = absurd h
same_text (json b) (made.JsonDiff ds) h = absurd h
same_text (json_diffs b) (made.Jsonb d) h = absurd h

-- ---- partial updates of JSON documents

pub kept_diffs : (b : BinlogValue) (ds : Vec JsonDiff Global) → b ≡ made.JsonDiff ds → kept_text b ≡ diffs_text (map diff_view ds.items)
unfolding kept_text
kept_diffs b ds h = rw h refl

pub kept_diffs_failed : (column : ℕ) (b : BinlogValue) (ds : Vec JsonDiff Global) (old new : List ℕ) (e : RowsError) → b ≡ made.JsonDiff ds → IsTextError e (diffs_text (map diff_view ds.items)) old new
    → IsTextError e (kept_cell_text column b) old new
kept_diffs_failed column b ds old new e h p = (rw (kept_diffs b ds h) (no_more (λ (t : List ℕ). t) e (diffs_text (map diff_view ds.items)) (λ t. Ok (label column ++ t)) p.0), p.1)

pub diffs_written : (v : CellValue) (b : List ℕ) (ds : List Diff) → v ≡ json_diffs b → items_at diff_at b ≡ all_found ds → cell_value_text v ≡ diffs_text ds
unfolding cell_value_text
diffs_written v b ds h e = rw (h, e) refl

pub diffs_appended : (column : ℕ) (v : CellValue) (b : List ℕ) (ds : List Diff) (old new : List ℕ) → v ≡ json_diffs b → items_at diff_at b ≡ all_found ds → AppendsLabeledReading column (diffs_text ds) old new → Appends (cell_text column v) old new
diffs_appended column v b ds old new h e p = rw (diffs_written v b ds h e) p

-- partial updates of which one has no text
pub diffs_unwritten : (column : ℕ) (cell : CellRef) (b : List ℕ) (ds : List Diff) (old new : List ℕ) (e : RowsError) → cell_value cell ≡ json_diffs b → items_at diff_at b ≡ all_found ds → IsTextError e (diffs_text ds) old new
    → IsCellError e cell (cell_text column (cell_value cell)) old new
diffs_unwritten column cell b ds old new e h f p = (inr (rw (diffs_written (cell_value cell) b ds h f) (no_more (λ (t : List ℕ). t) e (diffs_text ds) (λ t. Ok (label column ++ t)) p.0)), p.1)

-- bytes that aren't partial updates
pub updates_failed : (b : List ℕ) (e : RowsError) → (e ≡ Memory) ⊎ ((items_at diff_at b).fault ≡ Some e) → (let failed : Reading (List ℕ) = Err e in Parses (λ (t : List ℕ). t) failed (cell_diffs_text b))
updates_failed b e (inl m) = rw m tt
updates_failed b e (inr h) = rw h (own e (diffs_fault b e h))
  where
    own : (k : RowsError) → IsJsonbFault k → (let fault : Reading (List ℕ) = Err k in Parses (λ (t : List ℕ). t) fault fault)
    own (Jsonb None) j = tt
    own (Jsonb (Some x)) j = refl
    own Memory j = absurd j
    own EndOfBody j = absurd j
    own RemainingBytes j = absurd j
    own UnknownNumber j = absurd j
    own Metadata j = absurd j
    own Cell j = absurd j
    own Decimal j = absurd j
    own EmptyPair j = absurd j
    own Read j = absurd j

pub diffs_failed : (column : ℕ) (v : CellValue) (b : List ℕ) (e : RowsError) → v ≡ json_diffs b → (e ≡ Memory) ⊎ ((items_at diff_at b).fault ≡ Some e) → (let failed : Reading (List ℕ) = Err e in Parses (λ (t : List ℕ). t) failed (cell_text column v))
unfolding cell_value_text
diffs_failed column v b e h why = rw h (no_more (λ (t : List ℕ). t) e (cell_diffs_text b) (λ t. Ok (label column ++ t)) (updates_failed b e why))

-- ---- faults without a name

pub document_nameless : (v : CellValue) (b : List ℕ) → v ≡ json b → IsNamelessDocument b → HasNamelessContent v
document_nameless v b h p = rw h p

pub updates_nameless : (v : CellValue) (b : List ℕ) (ds : List Diff) → v ≡ json_diffs b → items_at diff_at b ≡ all_found ds → HasNamelessDiff ds → HasNamelessContent v
updates_nameless v b ds h f p = rw h (inr (rw f (refl, p)))

pub updates_unread : (v : CellValue) (b : List ℕ) (e : RowsError) → v ≡ json_diffs b → (e ≡ Memory) ⊎ ((items_at diff_at b).fault ≡ Some e) → e ≡ Jsonb None → HasNamelessContent v
updates_unread v b e h (inl m) same = absurd (cc (m, same))
updates_unread v b e h (inr f) same = rw h (inl (f ∙ ap (λ (k : RowsError). Some k) same))

pub kept_nameless : (b : BinlogValue) (d : JsonbValue) → b ≡ made.Jsonb d → HasNamelessFault (jsonb_value d) → HasNamelessPart b
kept_nameless b d h p = rw h p

pub kept_updates_nameless : (b : BinlogValue) (ds : Vec JsonDiff Global) → b ≡ made.JsonDiff ds → HasNamelessDiff (map diff_view ds.items) → HasNamelessPart b
kept_updates_nameless b ds h p = rw h p
