-- The rows of a pair, read from the images in order.
use Rattle.std.proofs.Common.{◌≡◌, ◌⊎◌, ℕ, Bool, false, List, [], ◌∷◌, map, Option, Some, None, Ok, Err, refl, sym, ap, ◌∙◌, inl, inr, if◌then◌else◌}
use Rattle.std.specs.Prelude.{IfOk, IfErr}
use Rattle.std.specs.Borrow.{Bor}
use Rattle.std.specs.Rc.{rc_slice_items}
use Rattle.std.specs.declared.result.Result.{Result}
use Rattle.rows_values.specs.Columns.{parts_of}
use Rattle.rows_values.specs.declared.rows.column.Column.{Column}
use Rattle.rows_errors.specs.declared.fault.RowsError.{RowsError}
use Rattle.rows_errors.specs.declared.fault.RowsError.TheVariants.{Memory}
use Rattle.rows_errors.specs.Readings.{Reading, ◌>>=◌}
use Rattle.rows_cells.specs.Images.{ColumnValue, ImageShape, image_at}
use Rattle.rows_cells.specs.declared.image.ImageColumn.{ImageColumn}
use Rattle.rows_cells.specs.EventRows.{images_at, row_at}
use Rattle.rows_event_body.specs.RowImages.{IsReadRow, IsRowOf, image_read}
use Rattle.rows_event_body.specs.declared.binlog_row.BinlogRow.{BinlogRow}
use Rattle.rows_event_body.specs.declared.row_image.RowImage.{RowImage}
use Rattle.rows_event_body.specs.EventImages.{shapes_read, ReadsImage, ReadsBoth, ReadsEventImages, HoldsPair, ReadsImages, ReadsPair}
use Rattle.rows_event_body.specs.EventRowSteps.{IsBeforeRows, IsNextRead}
use Rattle.rows_event_body.specs.EventShapes.{shapes_by, row_read}
use Rattle.rows_event_body.specs.RowPairs.{TableView, IsImageRow, IsPairOf, columns_by}
use Rattle.rows_event_body.specs.RowsEventTypes.{images_of, has_partial_after}
use Rattle.rows_event_body.specs.RowsEvents.{RowsBody}
use Rattle.rows_event_body.specs.declared.rows.RowsEventRows.{RowsEventRows}
use Rattle.rows_event_body.specs.declared.event_images.EventImages.{EventImages}
use Rattle.rows_event_body.specs.declared.event_images.EventImages.TheVariants.{Before, After, Both}

pub before_read : (i : RowImage) (bytes rest : List ℕ) (row : BinlogRow) → IsReadRow i bytes row rest → ReadsImages (Before i) bytes (Some row, None) rest
unfolding images_at
before_read i bytes rest row h = record { cells = h.image ∷ []; read = rw h.read refl; holds = h.row_is }

pub after_read : (i : RowImage) (bytes rest : List ℕ) (row : BinlogRow) → IsReadRow i bytes row rest → ReadsImages (After i) bytes (None, Some row) rest
unfolding images_at
after_read i bytes rest row h = record { cells = h.image ∷ []; read = rw h.read refl; holds = h.row_is }

pub both_read : (i j : RowImage) (bytes mid rest : List ℕ) (x y : BinlogRow) → IsReadRow i bytes x mid → IsReadRow j mid y rest → ReadsImages (Both i j) bytes (Some x, Some y) rest
unfolding images_at
both_read i j bytes mid rest x y h k = record { cells = h.image ∷ k.image ∷ []; read = rw (h.read, k.read) refl; holds = (h.row_is, k.row_is) }

pub first_fails : (i : ImageShape) (shapes : List ImageShape) (bytes : List ℕ) (e : RowsError) → e ≡ Memory ⊎ image_at i bytes ≡ Err e → e ≡ Memory ⊎ images_at (i ∷ shapes) bytes ≡ Err e
unfolding images_at
first_fails i shapes bytes e (inl h) = inl h
first_fails i shapes bytes e (inr h) = inr (rw h refl)

pub second_fails : (i j : RowImage) (bytes mid : List ℕ) (x : BinlogRow) (e : RowsError) → IsReadRow i bytes x mid → e ≡ Memory ⊎ image_at (image_read j) mid ≡ Err e → e ≡ Memory ⊎ images_at (shapes_read (Both i j)) bytes ≡ Err e
unfolding images_at
second_fails i j bytes mid x e h (inl k) = inl k
second_fails i j bytes mid x e h (inr k) = inr (rw (h.read, k) refl)

-- the layouts of an event's images are those of its readers
shapes_known : (t : TableView) (n : ℕ) (part : Bool) (before after : Option (List ℕ)) (images : EventImages) → ReadsBoth t n part before after images → shapes_by t.plan n part before after ≡ Ok (shapes_read images)
shapes_known t n part (Some b) None (Before i) h = rw h.shape refl
shapes_known t n part None (Some a) (After i) h = rw h.shape refl
shapes_known t n part (Some b) (Some a) (Both i j) h = rw (h.0.shape, h.1.shape) refl
shapes_known t n part before after images h = absurd h

columns_known : (o : Reading (List ImageColumn)) (json : Option ℕ) (s : ImageShape) → (o >>= λ columns. Ok (record { columns = columns; json_columns = json })) ≡ Ok s → o ≡ Ok s.columns
columns_known (Ok c) json s h = let e : c ≡ s.columns = cc h in ap (λ (l : List ImageColumn). Ok l) e
columns_known (Err e) json s h = absurd cc

row_known : (t : TableView) (n : ℕ) (part : Bool) (bits : List ℕ) (image : RowImage) (cells : List ColumnValue) (row : BinlogRow) → ReadsImage t n part bits image → IsRowOf image cells row → IsImageRow t n bits cells row
row_known t n part bits image cells row h is = record {
  values = is.values;
  columns = rc_slice_items image.columns;
  columns_are = columns_known (columns_by t n bits) (if part then Some t.plan.json_columns else None) (image_read image) h.shape;
  columns_are_of = is.columns_are_of;
  definitions = h.definitions ∙ ap (λ (l : List Column). Ok (map parts_of l)) (sym is.columns);
}

pair_known : (t : TableView) (n : ℕ) (part : Bool) (before after : Option (List ℕ)) (images : EventImages) (cells : List (List ColumnValue)) (pair : Option BinlogRow × Option BinlogRow)
    → ReadsBoth t n part before after images → HoldsPair images cells pair → IsPairOf t n before after cells pair
pair_known t n part (Some b) None (Before i) (x ∷ []) (Some r, None) h p = row_known t n false b i x r h p
pair_known t n part (Some b) None (Before i) cells pair h p = absurd p
pair_known t n part None (Some a) (After i) (x ∷ []) (None, Some r) h p = row_known t n part a i x r h p
pair_known t n part None (Some a) (After i) cells pair h p = absurd p
pair_known t n part (Some b) (Some a) (Both i j) (x ∷ y ∷ []) (Some r, Some s) h p = (row_known t n false b i x r h.0 p.0, row_known t n part a j y s h.1 p.1)
pair_known t n part (Some b) (Some a) (Both i j) cells pair h p = absurd p
pair_known t n part before after images cells pair h p = absurd h

-- the row that was read is the one that the bytes begin with
pub prefix_known : (it : RowsEventRows) (t : TableView) (r : RowsBody) (bytes : List ℕ) (images : EventImages) (o : Result ((Option BinlogRow × Option BinlogRow) × Bor (List ℕ)) RowsError) → IsBeforeRows it t r bytes → it.images ≡ Some images
    → IfOk o (λ x. ReadsPair images it.rest.now x.0 x.1.now) → IfErr o (λ e. e ≡ Memory ⊎ row_at (shapes_read images) it.rest.now ≡ Err e) → IsNextRead t r bytes o
prefix_known it t r bytes images (Ok x) s some ok err =
    let reads : ReadsEventImages t r images = rw some at s.made in
    let shapes = shapes_known t r.columns (has_partial_after (images_of r.event_type)) r.before r.after images reads in
    record { cells = ok.cells; read = rw (shapes, sym s.rest_is) ok.read; pair_is = pair_known t r.columns (has_partial_after (images_of r.event_type)) r.before r.after images ok.cells x.0 reads ok.holds }
prefix_known it t r bytes images (Err e) s some ok err =
    let reads : ReadsEventImages t r images = rw some at s.made in
    let shapes = shapes_known t r.columns (has_partial_after (images_of r.event_type)) r.before r.after images reads in
    elim err as (λ _. e ≡ Memory ⊎ row_read r t.plan bytes ≡ Err e) [ inl m ↦ inl m | inr f ↦ inr (rw (shapes, sym s.rest_is) f) ]
