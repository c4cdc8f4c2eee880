-- The cells of an image, read one after the other.
use Rattle.std.proofs.Common.{◌≡◌, ◌≤◌, ◌+◌, ℕ, false, true, Bool, List, [], ◌∷◌, ◌++◌, length, drop, Option, Some, None, Ok, Err, inl, inr, refl, sym, ap, ◌∙◌, append_assoc, arith}
use Rattle.std.proofs.lemmas.List.{append-nil, drop_all}
use Rattle.rows_errors.specs.declared.fault.RowsError.{RowsError}
use Rattle.rows_errors.specs.Readings.{Reading}
use Rattle.rows_cells.specs.Images.{ColumnValue, ImageShape, bit, format_in, field_at, image_at, cells_at}
use Rattle.rows_cells.proofs.ImageLemmas.{all_given, one_failed, one_given}
use Rattle.rows_cells.specs.ImageViews.{remaining_cells, columns_left, next_column, IsNextField, HasNextFormat, SkipsField}
use Rattle.rows_cells.specs.declared.image.ImageCells.{ImageCells}
use Rattle.rows_cells.specs.declared.image.ImageColumn.{ImageColumn}
use Rattle.rows_cells.specs.declared.image.ImageField.{ImageField}
use Rattle.rows_cells.specs.CellValues.{CellValue}
use Rattle.rows_cells.specs.CellValues as value
use Rattle.rows_cells.specs.ColumnFormats.{format_by}
use Rattle.rows_cells.specs.declared.format.CellFormat.{CellFormat}
use Rattle.rows_cells.specs.declared.format.CellFormat.TheVariants as format
use Rattle.feed_text.specs.CellText.{cell_value_text, label}
use Rattle.rows_jsonb.specs.JsonbValues.{JsonbValue}
use Rattle.rows_jsonb.specs.JsonDiffs.{Diff}
use Rattle.feed_text.specs.DiffText.{operation_text, diff_texts, value_part, bracketed}
use Rattle.feed_writers.specs.Quoting.{quoted}
use Rattle.feed_text.specs.DocumentForms.{AreUpdatesIn, IsNewValueIn}
use Rattle.changes_cells.specs.JsonDocuments.{json_form}
use Rattle.feed_text.specs.JsonText.{document_text}
use Rattle.feed_text.specs.ImageText.{Cells, cells_then, cells_text, StopsAt}
use Rattle.feed_transactions.specs.RowLines.{row_verdict, IsRowError, image_text_at}
use Rattle.feed_transactions.proofs.RowLineLemmas.{image_untold}
use Rattle.changes_cells.specs.FieldJson.{IsFieldError}
use Rattle.changes_tables.specs.ShownColumns.{ColumnView}
use Rattle.changes_cells.specs.CellJson.{IsCellJson, IsBytesJson, date_shown}
use Rattle.changes_lines.specs.RowJson.{CellJson, AreCellsJson, column_at, member_json, members_json}
use Rattle.changes_lines.specs.declared.members.Separator.{Separator}
use Rattle.changes_lines.specs.declared.members.Separator.TheVariants as brace
use Rattle.changes_lines.specs.ReadCells.{GivesJson, separator_after, separator_byte, separator_end, AppendsMember, AppendsImage}
use Rattle.changes_lines.proofs.CellJsonLemmas.{are_both, members_both, members_one, separator_both, object_ends}

-- no cell was read yet
pub gives_none : (t : List ColumnView) (c : ImageCells) → GivesJson t c c []
unfolding AreCellsJson
gives_none t c = record { given = []; columns = []; read = same (remaining_cells c); split = refl; are = tt; fewer = omega arith }
  where
    same : (o : Reading Cells) → o ≡ cells_then [] o
    same (Ok x) = refl
    same (Err e) = refl

after_both : (vs ws : List ColumnValue) (one two three : Reading Cells) → one ≡ cells_then vs two → two ≡ cells_then ws three → one ≡ cells_then (vs ++ ws) three
after_both vs ws one two (Ok x) h e = h ∙ rw e (ap (λ (l : List ColumnValue). Ok (l, x.1)) (sym (append_assoc vs ws x.0)))
after_both vs ws one two (Err f) h e = h ∙ rw e refl

-- some cells, and then others
pub gives_both : (t : List ColumnView) (old mid new : ImageCells) (xs ys : List CellJson) → GivesJson t old mid xs → GivesJson t mid new ys → GivesJson t old new (xs ++ ys)
gives_both t old mid new xs ys g h = record {
  given = g.given ++ h.given;
  columns = g.columns ++ h.columns;
  read = after_both g.given h.given (remaining_cells old) (remaining_cells mid) (remaining_cells new) g.read h.read;
  split = g.split ∙ ap (λ (l : List ImageColumn). g.columns ++ l) h.split ∙ sym (append_assoc g.columns h.columns (columns_left new));
  are = are_both t g.columns h.columns g.given h.given xs ys g.are h.are;
  fewer = let a = g.fewer in let b = h.fewer in omega (arith, a, b);
}

-- JSON is written alike whether a column has documents or updates of them
of_column : (c : ColumnView) (b : Bool) (f : CellFormat) (v : CellValue) (x : List ℕ) → IsCellJson c (format_by b f) v x → IsCellJson c f v x
unfolding IsCellJson IsBytesJson date_shown
of_column c false f v x h = h
of_column c true format.Json value.null x h = h
of_column c true format.Json (value.bytes b) x h = h
of_column c true format.Json (value.int z) x h = h
of_column c true format.Json (value.uint n) x h = h
of_column c true format.Json (value.float n) x h = h
of_column c true format.Json (value.double n) x h = h
of_column c true format.Json (value.date a d e f g i j) x h = h
of_column c true format.Json (value.time a d e f g i) x h = h
of_column c true format.Json (value.json b) x h = h
of_column c true format.Json (value.json_diffs b) x h = h
of_column c true (format.Signed w) v x h = h
of_column c true (format.Unsigned w) v x h = h
of_column c true format.Float v x h = h
of_column c true format.Double v x h = h
of_column c true format.Year v x h = h
of_column c true format.NewDate v x h = h
of_column c true format.OldTime v x h = h
of_column c true format.OldDatetime v x h = h
of_column c true (format.Timestamp2 d) v x h = h
of_column c true (format.Datetime2 d) v x h = h
of_column c true (format.Time2 d) v x h = h
of_column c true (format.Decimal p d) v x h = h
of_column c true (format.Plain n) v x h = h
of_column c true (format.Counted w) v x h = h
of_column c true format.JsonDiffs v x h = h
of_column c true format.NoMetadata v x h = h
of_column c true format.NoCells v x h = h

-- equal readings are of equal values
ok_fst : (v w : CellValue) (bs rest : List ℕ) → (let r : Reading (CellValue × List ℕ) = Ok (v, bs) in r ≡ Ok (w, rest)) → v ≡ w
ok_fst v w bs rest h = let pair : (let p : CellValue × List ℕ = (v, bs) in p ≡ (w, rest)) = cc in ap (λ (p : CellValue × List ℕ). p.0) pair

-- NULL is written alike in each format
null_alike : (c : ColumnView) (f g : CellFormat) (bytes rest x : List ℕ) (v : CellValue) → field_at true f bytes ≡ Ok (v, rest) → IsCellJson c f v x → IsCellJson c g v x
unfolding IsCellJson
null_alike c f g bs rest x v read h = alike (ok_fst value.null v bs rest read) h
  where
    alike : value.null ≡ v → IsCellJson c f v x → IsCellJson c g v x
    alike is k = rw (← is) (rw (← is) at k)

-- the JSON of a field in its column's format
in_column_format : (c : ColumnView) (cells : ImageCells) (f : ImageField) (v : CellValue) (rest x : List ℕ) (n : Bool) → n ≡ f.is_null → IsNextField cells f → HasNextFormat cells f → field_at n f.format f.bytes.now ≡ Ok (v, rest) → IsCellJson c f.format v x
    → IsCellJson c (next_column cells).format v x
in_column_format c cells f v rest x true isnt n format read h = null_alike c f.format (next_column cells).format f.bytes.now rest x v read h
in_column_format c cells f v rest x false isnt n format read h = of_column c (bit cells.bits.now (next_column cells).json_column) (next_column cells).format v x (rw (format (sym isnt)) at h)

-- one cell
pub gives_field : (t : List ColumnView) (old new : ImageCells) (f : ImageField) (v : CellValue) (json rest : List ℕ) → IsNextField old f → HasNextFormat old f → field_at f.is_null f.format f.bytes.now ≡ Ok (v, rest) → IsCellJson (column_at t f.column) f.format v json
    → SkipsField old rest new → columns_left old ≡ next_column old ∷ columns_left new → GivesJson t old new (record { column = f.column; json = json } ∷ [])
unfolding AreCellsJson
gives_field t old new f v json rest n format read x s columns = record {
  given = record { column = f.column; value = v } ∷ [];
  columns = next_column old ∷ [];
  read = rw n.column (s.0 v (sym n.value ∙ read));
  split = columns;
  are = (refl, in_column_format (column_at t f.column) old f v rest json f.is_null refl n format read x, tt);
  fewer = let one = s.1 in omega (arith, one);
}

-- ---- an image

-- updates with JSON have texts in the feed
updates_text : (ds : List Diff) (xs : List (List ℕ)) → AreUpdatesIn json_form ds xs → (texts : List (List ℕ)) × (diff_texts ds ≡ Ok texts)
unfolding AreUpdatesIn diff_texts
updates_text [] xs h = ([], refl)
updates_text (d ∷ ds) [] h = absurd h
updates_text (d ∷ ds) (x ∷ xs) h =
    let first = new_value d.1.1 h.0.0 h.0.1 in
    let more = updates_text ds xs h.1 in
    ((operation_text d.0 ++ (quoted d.1.0 ++ first.0)) ∷ more.0, rw (first.1, more.1) refl)
  where
    new_value : (v : Option JsonbValue) (y : Option (List ℕ)) → IsNewValueIn json_form v y → (text : List ℕ) × (value_part v ≡ Ok text)
    new_value None y k = ([], refl)
    new_value (Some v) y k = (32 ∷ document_text k.0, rw k.1 refl)

-- a value with JSON has a text in the feed
value_text : (c : ColumnView) (f : CellFormat) (v : CellValue) (x : List ℕ) → IsCellJson c f v x → (text : List ℕ) × (cell_value_text v ≡ Ok text)
unfolding IsCellJson cell_value_text
value_text c f value.null x h = (_, refl)
value_text c f (value.bytes b) x h = (_, refl)
value_text c f (value.int z) x h = (_, refl)
value_text c f (value.uint n) x h = (_, refl)
value_text c f (value.float n) x h = (_, refl)
value_text c f (value.double n) x h = (_, refl)
value_text c f (value.date a d e g i j k) x h = (_, refl)
value_text c f (value.time a d e g i j) x h = (_, refl)
value_text c f (value.json b) x h = (document_text h.tree, rw h.is refl)
value_text c f (value.json_diffs b) x h = let t = updates_text h.updates h.text.0 h.text.1 in (bracketed t.0, rw (h.are, t.1) refl)

-- so do the values of an image
pub cells_have_text : (t : List ColumnView) (cs : List ImageColumn) (vs : List ColumnValue) (xs : List CellJson) → AreCellsJson t cs vs xs → (text : List ℕ) × (cells_text vs ≡ Ok text)
unfolding AreCellsJson cells_text
cells_have_text t [] [] [] h = ([], refl)
cells_have_text t (c ∷ cs) (v ∷ vs) (x ∷ xs) h =
    let first = value_text (column_at t v.column) c.format v.value x.json h.1 in
    let more = cells_have_text t cs vs xs h.2 in
    (label v.column ++ first.0 ++ more.0, rw (first.1, more.1) refl)
cells_have_text t [] (v ∷ vs) xs h = absurd h
cells_have_text t [] [] (x ∷ xs) h = absurd h
cells_have_text t (c ∷ cs) [] xs h = absurd h
cells_have_text t (c ∷ cs) (v ∷ vs) [] h = absurd h

-- the whole image was read
pub image_read : (t : List ColumnView) (s : ImageShape) (bytes : List ℕ) (old left : ImageCells) (json : List CellJson) → remaining_cells old ≡ image_at s bytes → columns_left old ≡ s.columns → GivesJson t old left json → length left.columns.now ≤ left.index
    → (values : List ColumnValue) × (image_at s bytes ≡ Ok (values, left.rest.now)) × AreCellsJson t s.columns values json
image_read t s bytes old left json is columns g none =
    let all : remaining_cells left ≡ Ok ([], left.rest.now) = all_given left.bits.now left.nulls.now left.columns.now left.rest.now left.index none in
    let no_more : columns_left left ≡ [] = drop_all left.index left.columns.now none in
    let whole : s.columns ≡ g.columns = sym columns ∙ g.split ∙ ap (λ (l : List ImageColumn). g.columns ++ l) no_more ∙ append-nil g.columns in (
      g.given,
      sym is ∙ g.read ∙ ap (cells_then g.given) all ∙ ap (λ (l : List ColumnValue). Ok (l, left.rest.now)) (append-nil g.given),
      rw whole g.are,
    )

-- why the next cell has no JSON, and so the image has no text
pub image_stops : (t : List ColumnView) (s : ImageShape) (bytes : List ℕ) (old left : ImageCells) (f : ImageField) (json : List CellJson) (e : RowsError) → remaining_cells old ≡ image_at s bytes → GivesJson t old left json → IsNextField left f
    → IsFieldError e f.is_null f.format f.bytes.now → IsRowError (image_text_at s bytes) (row_verdict e)
image_stops t s bytes old left f json e is g n h =
    let text = cells_have_text t g.columns g.given json g.are in
    image_untold s bytes text.0 text.0 old old e (row_verdict e) refl is (record { given = g.given; text = text.0; left = remaining_cells left; read = g.read; is = text.1; why = why h; cells = refl; unchanged = refl })
  where
    why : IsFieldError e f.is_null f.format f.bytes.now → StopsAt e (remaining_cells left)
    why (inl memory) = inl memory
    why (inr (inl failed)) = inr (inl (one_failed left.bits.now left.nulls.now left.columns.now left.rest.now left.index (bit left.nulls.now left.index) (format_in left.bits.now (next_column left)) n.some refl refl e (sym n.value ∙ failed)))
    why (inr (inr (v, rest, read, parses))) =
        inr (inr (
          record { column = (next_column left).column; value = v },
          cells_at left.bits.now left.nulls.now (left.index + 1) (drop (left.index + 1) left.columns.now) rest,
          one_given left.bits.now left.nulls.now left.columns.now left.rest.now left.index (bit left.nulls.now left.index) (format_in left.bits.now (next_column left)) n.some refl refl v rest (sym n.value ∙ read),
          parses (next_column left).column,
        ))

-- ---- the cells of an object so far

-- the members of some cells were appended
pub record IsWriting (t : List ColumnView) (old left : ImageCells) (s : Separator) (before after : List ℕ) : Type 0 where
  pub json : List CellJson
  pub gives : GivesJson t old left json
  pub separator : s ≡ separator_after brace.Brace json
  pub appended : after ≡ before ++ members_json t json

pub none_written : (t : List ColumnView) (c : ImageCells) (before : List ℕ) → IsWriting t c c brace.Brace before before
none_written t c before = record { json = []; gives = gives_none t c; separator = refl; appended = sym (append-nil before) }

-- one more member
pub member_written : (t : List ColumnView) (first old new : ImageCells) (s : Separator) (f : ImageField) (rest before one two : List ℕ) → IsWriting t first old s before one → IsNextField old f → HasNextFormat old f → AppendsMember t s f rest one two
    → SkipsField old rest new → columns_left old ≡ next_column old ∷ columns_left new → IsWriting t first new brace.Comma before two
member_written t first old new s f rest before one two w n format a skips columns =
    let x : CellJson = record { column = f.column; json = a.json } in
    let field = gives_field t old new f a.value a.json rest n format a.read a.is skips columns in
    let sep : brace.Comma ≡ separator_after brace.Brace (w.json ++ x ∷ []) = rw (separator_both brace.Brace w.json (x ∷ [])) refl in
    record {
      json = w.json ++ x ∷ [];
      gives = gives_both t first old new w.json (x ∷ []) w.gives field;
      separator = sep;
      appended =
          a.appended
          ∙ ap (λ (l : List ℕ). l ++ (separator_byte s ∷ member_json t x)) w.appended
          ∙ append_assoc before (members_json t w.json) (separator_byte s ∷ member_json t x)
          ∙ ap (λ (k : Separator). before ++ (members_json t w.json ++ (separator_byte k ∷ member_json t x))) w.separator
          ∙ ap (λ (l : List ℕ). before ++ (members_json t w.json ++ l)) (sym (members_one t (separator_after brace.Brace w.json) x))
          ∙ ap (λ (l : List ℕ). before ++ l) (sym (members_both t brace.Brace w.json (x ∷ [])));
    }

-- all members, and the end of the object
pub image_written : (t : List ColumnView) (s : ImageShape) (bytes : List ℕ) (first left : ImageCells) (sep : Separator) (before one two : List ℕ) → remaining_cells first ≡ image_at s bytes → columns_left first ≡ s.columns → IsWriting t first left sep before one
    → length left.columns.now ≤ left.index → two ≡ one ++ separator_end sep → AppendsImage t s bytes left.rest.now before two
image_written t s bytes first left sep before one two is columns w none end =
    let read = image_read t s bytes first left w.json is columns w.gives none in
    record {
      values = read.0;
      json = w.json;
      read = read.1;
      are = read.2;
      appended =
          end
          ∙ ap (λ (l : List ℕ). l ++ separator_end sep) w.appended
          ∙ append_assoc before (members_json t w.json) (separator_end sep)
          ∙ ap (λ (k : Separator). before ++ (members_json t w.json ++ separator_end k)) w.separator
          ∙ ap (λ (l : List ℕ). before ++ l) (sym (object_ends t w.json));
    }
