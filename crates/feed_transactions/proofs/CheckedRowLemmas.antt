-- Rows whose cells have texts.
use Rattle.std.proofs.Common.{◌≡◌, inl, inr, ◌<◌, ◌≤◌, ℕ, ℤ, Bool, true, false, List, [], ◌∷◌, ◌++◌, length, Some, Result, Ok, Err, refl, sym, ap, ◌∙◌, arith}
use Rattle.std.specs.Prelude.{codes, IfErr, IfOk}
use Rattle.std.specs.Borrow.{Bor}
use Rattle.std.proofs.lemmas.List.{append-nil}
use Rattle.rows_errors.specs.declared.fault.RowsError.{RowsError}
use Rattle.rows_cells.specs.CellViews.{cell_value}
use Rattle.rows_cells.specs.CellValues.{null, int}
use Rattle.rows_cells.specs.Cells.{cell_at}
use Rattle.rows_cells.specs.Images.{ColumnValue, ImageShape, image_at}
use Rattle.rows_cells.specs.ImageViews.{remaining_cells, ReturnsCell, IsNextField, SkipsField}
use Rattle.rows_cells.specs.declared.cell.CellRef.{CellRef}
use Rattle.rows_cells.specs.declared.cell.CellRef.TheVariants as ref
use Rattle.rows_cells.specs.declared.format.CellFormat.{CellFormat}
use Rattle.rows_cells.specs.declared.format.CellFormat.TheVariants.{Signed}
use Rattle.rows_cells.specs.declared.format.Width.{Width}
use Rattle.rows_cells.specs.declared.image.ImageCells.{ImageCells}
use Rattle.rows_cells.specs.declared.image.ImageField.{ImageField}
use Rattle.feed_text.specs.CellText.{label, cell_text, cell_value_text}
use Rattle.feed_text.specs.ImageText.{cells_then, cells_text, AppendsFields, StopsWithin}
use Rattle.feed_text.proofs.ImageTextLemmas.{none_appended, more_appended, cell_appended, stops_unread, stops_unwritten}
use Rattle.feed_checks.specs.declared.verdict.Verdict.{Verdict}
use Rattle.feed_checks.specs.declared.verdict.Verdict.TheVariants as verdicts
use Rattle.feed_transactions.specs.RowLines.{row_verdict, IsRowError, IsRowsError, image_text_at, images_texts_at, rows_texts_at, PutsImage, PutsImages, IsAppendedSoFar}
use Rattle.feed_transactions.proofs.RowLineLemmas.{image_untold, one_image, two_images, second_failed, row_put, row_failed, row_empty, not_shorter, none_put, more_put, all_put, lines_failed}
use Rattle.feed_transactions.specs.CheckedRows.{is_document, HasCellText, Passes, PassesNext, IsNextError, HasImageText, HasImageTexts, HaveTexts}

-- a cell that was read and isn't a document has a text
text_of : (column : ℕ) (cell : CellRef) → is_document cell ≡ false → (text : List ℕ) × (cell_text column (cell_value cell) ≡ Ok text)
unfolding cell_value_text
text_of column ref.Null h = (_, refl)
text_of column (ref.Int z) h = (_, refl)
text_of column (ref.UInt n) h = (_, refl)
text_of column (ref.Float bits) h = (_, refl)
text_of column (ref.Double bits) h = (_, refl)
text_of column (ref.Bytes b) h = (_, refl)
text_of column (ref.Year y) h = (_, refl)
text_of column (ref.NewDate n) h = (_, refl)
text_of column (ref.OldTime z) h = (_, refl)
text_of column (ref.OldDatetime n) h = (_, refl)
text_of column (ref.Timestamp seconds micros) h = (_, refl)
text_of column (ref.Datetime packed) h = (_, refl)
text_of column (ref.Time packed) h = (_, refl)
text_of column (ref.Decimal precision scale b) h = (_, refl)
text_of column (ref.Json b) h = absurd cc
text_of column (ref.JsonDiffs b) h = absurd cc

-- the next cell has this text
next_passes : (old new : ImageCells) (column : ℕ) (cell : CellRef) (text : List ℕ) → ReturnsCell old (Ok (Some (column, cell))) new → cell_text column (cell_value cell) ≡ Ok text → PassesNext old true new
next_passes old new column cell text h is = ((text, cell_appended old new column cell [] text h (rw is refl)), h.1)

pub plain_passes : (old new : ImageCells) (column : ℕ) (cell : CellRef) → ReturnsCell old (Ok (Some (column, cell))) new → is_document cell ≡ false → PassesNext old true new
plain_passes old new column cell h plain = let t = text_of column cell plain in next_passes old new column cell t.0 h t.1

pub document_passes : (old new : ImageCells) (column : ℕ) (cell : CellRef) → ReturnsCell old (Ok (Some (column, cell))) new → (text : List ℕ) × (cell_text column (cell_value cell) ≡ Ok text) → PassesNext old true new
document_passes old new column cell h t = next_passes old new column cell t.0 h t.1

-- a field has a text
pub null_text : (is_null : Bool) (format : CellFormat) (bytes : List ℕ) → is_null ≡ true → HasCellText is_null format bytes bytes
unfolding cell_value_text
null_text is_null format bytes h = rw h (record { value = null; text = _; read = refl; is = refl })

pub integer_text : (is_null : Bool) (format : CellFormat) (bytes rest : List ℕ) (width : Width) (z : ℤ) → is_null ≡ false → format ≡ Signed width → cell_at (Signed width) bytes ≡ Ok (int z, rest) → HasCellText is_null format bytes rest
unfolding cell_value_text
integer_text is_null format bytes rest width z h f is = rw (h, f) (record { value = int z; text = _; read = is; is = refl })

pub field_passes : (old new : ImageCells) (f : ImageField) (rest : List ℕ) → IsNextField old f → HasCellText f.is_null f.format f.bytes.now rest → SkipsField old rest new → Passes old new
unfolding cells_text
field_passes old new f rest n h s =
    let v : ColumnValue = record { column = f.column; value = h.value } in
    let text = label f.column ++ h.text in
    let read : remaining_cells old ≡ cells_then (v ∷ []) (remaining_cells new) = rw n.column (s.0 h.value (sym n.value ∙ h.read)) in
    let is : cell_text f.column h.value ≡ Ok text = rw h.is refl in (
      text,
      record {
        text = text;
        gives = record { given = v ∷ []; read = read; is = rw is (ap (λ (l : List ℕ). Ok l) (append-nil text)); fewer = omega (arith, s.1) };
        appended = refl;
      },
    )

pub passes_none : (c : ImageCells) → Passes c c
passes_none c = ([], none_appended c [])

pub passes_more : (old mid new : ImageCells) → Passes old mid → Passes mid new → Passes old new
passes_more old mid new a b =
    let again : AppendsFields mid new a.0 (a.0 ++ b.1.text) = record { text = b.1.text; gives = b.1.gives; appended = refl } in
    (a.0 ++ b.1.text, more_appended old mid new [] a.0 (a.0 ++ b.1.text) a.1 again)

-- all cells of an image have a text
pub image_passes : (s : ImageShape) (bytes rest : List ℕ) (old left : ImageCells) → remaining_cells old ≡ image_at s bytes → Passes old left → remaining_cells left ≡ Ok ([], rest) → HasImageText s bytes rest
image_passes s bytes rest old left is a none = (
  a.0,
  record {
    cells = a.1.gives.given;
    text = a.1.text;
    read = sym is ∙ a.1.gives.read ∙ ap (cells_then a.1.gives.given) none ∙ ap (λ (l : List ColumnValue). Ok (l, rest)) (append-nil a.1.gives.given);
    is = a.1.gives.is;
    appended = a.1.appended;
  },
)

-- or one has none
stops_here : (s : ImageShape) (bytes : List ℕ) (old left : ImageCells) (now : List ℕ) (e : RowsError) (v : Verdict) → remaining_cells old ≡ image_at s bytes → v ≡ row_verdict e → StopsWithin e old [] now → IsRowError (image_text_at s bytes) v
stops_here s bytes old left now e v is why w =
    image_untold s bytes now now old old e v why is (record { given = w.given; text = w.text; left = w.left; read = w.read; is = w.is; why = w.why; cells = refl; unchanged = refl })

pub image_fails : (s : ImageShape) (bytes : List ℕ) (old left : ImageCells) (v : Verdict) → remaining_cells old ≡ image_at s bytes → Passes old left → IsNextError left v → IsRowError (image_text_at s bytes) v
image_fails s bytes old left v is a (e, why, inl h) = stops_here s bytes old left a.0 e v is why (stops_unread e old left left [] a.0 a.1 (h, refl))
image_fails s bytes old left v is a (e, why, inr h) = stops_here s bytes old left a.0 e v is why (stops_unwritten e old left h.after h.column h.cell [] a.0 a.0 a.1 h.read (h.why, refl))

-- ---- the images of a row

pub first_passes : (s : ImageShape) (bytes rest : List ℕ) → HasImageText s bytes rest → HasImageTexts (s ∷ []) bytes rest
first_passes s bytes rest h = (h.0, one_image s bytes rest [] h.0 h.1)

both_pass : (s t : ImageShape) (bytes mid rest : List ℕ) → HasImageText s bytes mid → HasImageText t mid rest → HasImageTexts (s ∷ t ∷ []) bytes rest
both_pass s t bytes mid rest h k =
    let begun = h.0 ++ codes " to" in
    let put : PutsImage t mid rest begun (begun ++ k.1.text) = record { cells = k.1.cells; text = k.1.text; read = k.1.read; is = k.1.is; appended = refl } in
    (begun ++ k.1.text, two_images s t bytes mid rest [] h.0 begun (begun ++ k.1.text) h.1 refl put)

pub second_passes : (s t : ImageShape) (bytes mid : List ℕ) (r : Result (Bor (List ℕ)) Verdict) → HasImageText s bytes mid → IfOk r (λ rest. HasImageText t mid rest.now) → IfOk r (λ rest. HasImageTexts (s ∷ t ∷ []) bytes rest.now)
second_passes s t bytes mid (Ok x) h k = both_pass s t bytes mid x.now h k
second_passes s t bytes mid (Err v) h k = tt

pub second_fails : (s t : ImageShape) (bytes mid : List ℕ) (r : Result (Bor (List ℕ)) Verdict) → HasImageText s bytes mid → IfErr r (IsRowError (image_text_at t mid)) → IfErr r (IsRowError (images_texts_at (s ∷ t ∷ []) bytes))
second_fails s t bytes mid (Ok x) h k = tt
second_fails s t bytes mid (Err v) h k = second_failed s t bytes mid [] h.0 v h.1 k

-- ---- rows

-- the rows before these bytes have texts
abbrev pub HaveTextsSoFar : List ImageShape → List ℕ → List ℕ → Type 0
HaveTextsSoFar shapes bytes rest = (now : List ℕ) × IsAppendedSoFar shapes [] bytes rest [] now

pub no_rows_yet : (shapes : List ImageShape) (bytes : List ℕ) → HaveTextsSoFar shapes bytes bytes
no_rows_yet shapes bytes = ([], none_put shapes [] bytes [] bytes refl)

pub row_passes : (shapes : List ImageShape) (bytes rest after : List ℕ) → 0 < length rest → HaveTextsSoFar shapes bytes rest → HasImageTexts shapes rest after → length after < length rest → HaveTextsSoFar shapes bytes after
row_passes shapes bytes rest after some h k less =
    let begun : List ℕ = h.0 ++ [] in
    let again : PutsImages shapes rest after begun (begun ++ _) = record { images = k.1.images; texts = k.1.texts; read = k.1.read; is = k.1.is; appended = refl } in
    (_, more_put shapes [] bytes [] rest after h.0 begun _ _ some h.1 refl (row_put shapes rest after begun _ again less) refl)

pub rows_pass : (shapes : List ImageShape) (bytes rest : List ℕ) → length rest ≡ 0 → HaveTextsSoFar shapes bytes rest → HaveTexts shapes bytes
rows_pass shapes bytes rest none h = let all = all_put shapes [] bytes [] rest h.0 none h.1 in (all.texts, all.are)

pub row_fails : (shapes : List ImageShape) (bytes rest : List ℕ) (v : Verdict) → 0 < length rest → HaveTextsSoFar shapes bytes rest → IsRowError (images_texts_at shapes rest) v → IsRowsError (rows_texts_at shapes bytes) v
row_fails shapes bytes rest v some h k = lines_failed shapes [] bytes [] rest h.0 v some h.1 (row_failed shapes rest v k)

pub empty_row_fails : (shapes : List ImageShape) (bytes rest after : List ℕ) (v : Verdict) → 0 < length rest → HaveTextsSoFar shapes bytes rest → HasImageTexts shapes rest after → length rest ≤ length after → v ≡ verdicts.Row → IsRowsError (rows_texts_at shapes bytes) v
empty_row_fails shapes bytes rest after v some h k long is =
    lines_failed shapes [] bytes [] rest h.0 v some h.1 (inl (is, row_empty shapes rest after [] k.0 k.1 (not_shorter (length after) (length rest) long)))
