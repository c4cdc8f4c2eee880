-- The cells of images and the images of rows, read one after the other, and the number of an event's rows.
use Rattle.std.proofs.Common.{◌≡◌, ◌<◌, ◌≤◌, ◌+◌, ℕ, zero, suc, List, [], ◌∷◌, ◌++◌, length, Result, Ok, Err, refl, sym, ap, ◌∙◌, append_assoc, arith}
use Rattle.std.specs.Prelude.{IfOk}
use Rattle.std.specs.Borrow.{Bor}
use Rattle.std.proofs.lemmas.List.{append-nil}
use Rattle.std.proofs.lemmas.Bool.{lt-ltb}
use Rattle.rows_errors.specs.declared.fault.RowsError.{RowsError}
use Rattle.rows_errors.specs.Readings.{Reading, ◌>>=◌}
use Rattle.rows_jsonb.specs.Items.{items_at, walk}
use Rattle.rows_jsonb.proofs.ItemLemmas.{walk_on, walk_done}
use Rattle.rows_cells.specs.CellValues.{CellValue}
use Rattle.rows_cells.specs.EventRows.{images_at, row_at}
use Rattle.rows_cells.specs.Images.{ColumnValue, ImageShape, image_at}
use Rattle.rows_cells.specs.ImageViews.{remaining_cells, IsNextField, SkipsField}
use Rattle.rows_cells.specs.declared.image.ImageCells.{ImageCells}
use Rattle.rows_cells.specs.declared.image.ImageField.{ImageField}
use Rattle.rows_cells.proofs.ImageLemmas.{all_given}
use Rattle.rows_event_body.specs.EventShapes.{event_shapes}
use Rattle.rows_event_body.specs.RowsEvents.{RowsBody}
use Rattle.rows_table_map.specs.TableMaps.{TableMap}
use Rattle.feed_text.specs.ImageText.{Cells, cells_then}
use Rattle.feed_transactions.specs.Changes.{OfRows}
use Rattle.feed_transactions.specs.CheckedRows.{rows_count}
use Rattle.feed_transactions.specs.MappedRows.{plan_by}
use Rattle.library_log.specs.RecordLayouts.{row_count}
use Rattle.library_log.specs.RecordParts.{Appends, ReadsCell, ReadsImage, ReadsRow}
use Rattle.library_log.proofs.LayoutLemmas.{appended_both}

pub appends_nothing : (old : List ℕ) → Appends old old
appends_nothing old = record { bytes = []; appended = sym (append-nil old) }

pub appends_then : (old mid new : List ℕ) → Appends old mid → Appends mid new → Appends old new
appends_then old mid new a b = record { bytes = a.bytes ++ b.bytes; appended = appended_both old mid new a.bytes b.bytes a.appended b.appended }

-- ---- the cells of an image

-- some cells were read, and their bytes appended
pub record IsReading (first left : ImageCells) (old new : List ℕ) : Type 0 where
  pub given : List ColumnValue
  pub read : remaining_cells first ≡ cells_then given (remaining_cells left)
  pub appends : Appends old new

pub none_read : (cells : ImageCells) (old : List ℕ) → IsReading cells cells old old
none_read cells old = record { given = []; read = same (remaining_cells cells); appends = appends_nothing old }
  where
    same : (o : Reading Cells) → o ≡ cells_then [] o
    same (Ok x) = refl
    same (Err e) = refl

after_one : (given : List ColumnValue) (v : ColumnValue) (one two three : Reading Cells) → one ≡ cells_then given two → two ≡ cells_then (v ∷ []) three → one ≡ cells_then (given ++ v ∷ []) three
after_one given v one two (Ok x) h e = h ∙ ap (cells_then given) e ∙ ap (λ (l : List ColumnValue). let r : Reading Cells = Ok (l, x.1) in r) (sym (append_assoc given (v ∷ []) x.0))
after_one given v one two (Err f) h e = h ∙ ap (cells_then given) e

pub one_read : (first left after : ImageCells) (f : ImageField) (rest old one two three : List ℕ) → IsReading first left old one → IsNextField left f → ReadsCell f.is_null f.format f.bytes.now rest → SkipsField left rest after → Appends one two → Appends two three → IsReading first after old three
one_read first left after f rest old one two three r n cell skips a b =
    let v : ColumnValue = record { column = f.column; value = cell.0 } in
    let read : remaining_cells left ≡ cells_then (v ∷ []) (remaining_cells after) = rw n.column (skips.0 cell.0 (sym n.value ∙ cell.1)) in
    record {
      given = r.given ++ v ∷ [];
      read = after_one r.given v (remaining_cells first) (remaining_cells left) (remaining_cells after) r.read read;
      appends = appends_then old one three r.appends (appends_then one two three a b);
    }

pub image_read : (s : ImageShape) (bytes old new : List ℕ) (first left : ImageCells) → remaining_cells first ≡ image_at s bytes → IsReading first left old new → length left.columns.now ≤ left.index → ReadsImage s bytes left.rest.now
image_read s bytes old new first left is r none =
    let all : remaining_cells left ≡ Ok ([], left.rest.now) = all_given left.bits.now left.nulls.now left.columns.now left.rest.now left.index none in
    (r.given, sym is ∙ r.read ∙ ap (cells_then r.given) all ∙ ap (λ (l : List ColumnValue). let x : Reading Cells = Ok (l, left.rest.now) in x) (append-nil r.given))

-- ---- the images of a row

pub one_image : (s : ImageShape) (bytes rest : List ℕ) → ReadsImage s bytes rest → ReadsRow (s ∷ []) bytes rest
unfolding images_at
one_image s bytes rest h = (h.0 ∷ [], rw h.1 refl)

pub two_images : (s t : ImageShape) (bytes mid rest : List ℕ) → ReadsImage s bytes mid → ReadsImage t mid rest → ReadsRow (s ∷ t ∷ []) bytes rest
unfolding images_at
two_images s t bytes mid rest h k = (h.0 ∷ k.0 ∷ [], rw (h.1, k.1) refl)

pub second_image : (s t : ImageShape) (bytes mid : List ℕ) (made : Result (Bor (List ℕ)) RowsError) → ReadsImage s bytes mid → IfOk made (λ rest. ReadsImage t mid rest.now) → IfOk made (λ rest. ReadsRow (s ∷ t ∷ []) bytes rest.now)
second_image s t bytes mid (Ok rest) h k = two_images s t bytes mid rest.now h k
second_image s t bytes mid (Err e) h k = tt

-- ---- the number of rows

-- so many rows were read, and these bytes are left
pub record IsCounting (shapes : List ImageShape) (bytes rest : List ℕ) (n : ℕ) : Type 0 where
  pub steps : ℕ
  pub enough : length rest ≤ steps
  pub count : rows_count shapes bytes ≡ n + length (walk (row_at shapes) steps rest).items

pub none_counted : (shapes : List ImageShape) (bytes : List ℕ) → IsCounting shapes bytes bytes 0
none_counted shapes bytes = record { steps = length bytes; enough = omega arith; count = from_none (rows_count shapes bytes) }
  where
    from_none : (n : ℕ) → n ≡ 0 + n
    from_none n = omega arith

row_found : (shapes : List ImageShape) (bytes rest : List ℕ) (images : List (List ColumnValue)) → images_at shapes bytes ≡ Ok (images, rest) → length rest < length bytes → row_at shapes bytes ≡ Ok (images, rest)
unfolding row_at
row_found shapes bytes rest images read less = rw (read, lt-ltb (length rest) (length bytes) less) refl

pub one_counted : (shapes : List ImageShape) (bytes rest after : List ℕ) (n : ℕ) → IsCounting shapes bytes rest n → ReadsRow shapes rest after → length after < length rest → IsCounting shapes bytes after (n + 1)
one_counted shapes bytes rest after n c r less = on c.steps c.enough c.count
  where
    row : row_at shapes rest ≡ Ok (r.0, after)
    row = row_found shapes rest after r.0 r.1 less

    next : (m k : ℕ) → m + (1 + k) ≡ m + 1 + k
    next m k = omega arith

    one_more : (v : List (List ColumnValue)) (l : List (List (List ColumnValue))) → length (v ∷ l) ≡ 1 + length l
    one_more v l = omega arith

    on : (steps : ℕ) → length rest ≤ steps → rows_count shapes bytes ≡ n + length (walk (row_at shapes) steps rest).items → IsCounting shapes bytes after (n + 1)
    on zero le count = absurd (omega (arith, le, less))
    on (suc steps) le count = record {
      steps = steps;
      enough = omega (arith, less, le);
      count = count
          ∙ ap (λ w. n + length w.items) (walk_on (row_at shapes) steps rest (Ok (r.0, after)) (omega (arith, less)) le row)
          ∙ ap (λ (k : ℕ). n + k) (one_more r.0 (walk (row_at shapes) steps after).items)
          ∙ next n (length (walk (row_at shapes) steps after).items);
    }

pub all_counted : (shapes : List ImageShape) (bytes rest : List ℕ) (n : ℕ) → length rest ≡ 0 → IsCounting shapes bytes rest n → n ≡ rows_count shapes bytes
all_counted shapes bytes [] n none c = sym (c.count ∙ ap (λ w. n + length w.items) (walk_done (row_at shapes) c.steps) ∙ with_none n)
  where
    with_none : (m : ℕ) → m + 0 ≡ m
    with_none m = omega arith
all_counted shapes bytes (b ∷ rest) n none c = absurd (omega (arith, none))

-- the number of rows of an event
pub event_counted : (m : TableMap) (r : RowsBody) (shapes : List ImageShape) (rows : List ℕ) (n : ℕ) → event_shapes r (plan_by m) ≡ Ok shapes → rows ≡ r.rows_data → n ≡ rows_count shapes rows → n ≡ row_count (OfRows m r)
event_counted m r shapes rows n read is counted =
    counted ∙ ap (rows_count shapes) is ∙ sym (ap (λ (o : Reading (List ImageShape)). length (items_at (λ (bytes : List ℕ). o >>= λ s. row_at s bytes) r.rows_data).items) read)
