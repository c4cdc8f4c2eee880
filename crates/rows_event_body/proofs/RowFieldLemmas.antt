-- The row that is read is the one that the bytes encode, by the image of its context.
use Rattle.std.proofs.Common.{◌≡◌, ◌⊎◌, ℕ, List, [], ◌∷◌, map, Option, Some, None, Ok, Err, refl, sym, ap, subst, ◌∙◌, inl, inr, if◌then◌else◌}
use Rattle.std.specs.Prelude.{◌==◌}
use Rattle.std.proofs.lemmas.Bool.Decides.{eqb_tells}
use Rattle.std.specs.List.{AllZip}
use Rattle.std.specs.Option.{option_map}
use Rattle.std.specs.Rc.{rc_slice_items}
use Rattle.wire_buf.specs.Encoding.{Begins, Lacks, Reads, Alone}
use Rattle.rows_table_map.specs.BitLists.{len_of, bit_at}
use Rattle.rows_values.specs.Columns.{ColumnParts, parts_of}
use Rattle.rows_values.specs.declared.rows.column.Column.{Column}
use Rattle.rows_errors.specs.declared.fault.RowsError.{RowsError}
use Rattle.rows_errors.specs.declared.fault.RowsError.TheVariants.{Metadata, Memory}
use Rattle.rows_errors.specs.Readings.{Reading}
use Rattle.rows_cells.specs.BinlogValues.{Kept, kept_view}
use Rattle.rows_cells.specs.Images.{ColumnValue, ImageShape, IsImage, image_at}
use Rattle.rows_cells.specs.declared.binlog_value.BinlogValue.{BinlogValue}
use Rattle.rows_cells.specs.declared.image.ImageColumn.{ImageColumn}
use Rattle.rows_cells.proofs.FieldLemmas.{ok_pair}
use Rattle.rows_cells.proofs.KeptLemmas.{kept_of, one_kept}
use Rattle.rows_cells.proofs.RowLemmas.{image-is, image-here}
use Rattle.rows_event_body.specs.PlanViews.{IsPlanOf, planned}
use Rattle.rows_event_body.specs.PickedColumns.{picked_as, definition}
use Rattle.rows_event_body.specs.ImageShapes.{table_plan, map_plan, shape_picked}
use Rattle.rows_event_body.specs.declared.plan.ColumnPlan.{ColumnPlan}
use Rattle.rows_event_body.specs.OwnedRows.{row_values}
use Rattle.rows_event_body.specs.RowImages.{image_read, IsHeld, IsReadRow}
use Rattle.rows_event_body.specs.RowFields.{RowView, row_view, image_of_ctx, definitions_of_ctx, IsKeptValue, IsRowField}
use Rattle.rows_event_body.specs.declared.binlog_row.BinlogRow.{BinlogRow}
use Rattle.rows_event_body.specs.declared.row_field.BinlogRowCtx.{BinlogRowCtx}
use Rattle.rows_event_body.specs.declared.row_image.RowImage.{RowImage}

-- ---- what is kept of cells

kept_cells : (cells : List ColumnValue) (values : List (Option BinlogValue)) → AllZip IsHeld cells values → AllZip IsKeptValue cells (map (option_map kept_view) values)
kept_cells [] [] h = tt
kept_cells [] (v ∷ values) h = absurd h
kept_cells (c ∷ cells) [] h = absurd h
kept_cells (c ∷ cells) (None ∷ values) h = absurd h.0
kept_cells (c ∷ cells) (Some v ∷ values) h = (kept_of c.value v h.0, kept_cells cells values h.1)

one_value : (cell : ColumnValue) (a b : Option Kept) → IsKeptValue cell a → IsKeptValue cell b → a ≡ b
one_value cell None b h i = absurd h
one_value cell (Some a) None h i = absurd i
one_value cell (Some a) (Some b) h i = ap Some (one_kept cell.value a b h i)

one_list : (cells : List ColumnValue) (a b : List (Option Kept)) → AllZip IsKeptValue cells a → AllZip IsKeptValue cells b → a ≡ b
one_list [] [] [] h i = refl
one_list [] [] (y ∷ b) h i = absurd i
one_list [] (x ∷ a) b h i = absurd h
one_list (c ∷ cells) [] b h i = absurd h
one_list (c ∷ cells) (x ∷ a) [] h i = absurd i
one_list (c ∷ cells) (x ∷ a) (y ∷ b) h i = ap (λ (z : Option Kept). z ∷ a) (one_value c x y h.0 i.0) ∙ ap (λ (l : List (Option Kept)). y ∷ l) (one_list cells a b h.1 i.1)

-- ---- the row that was read

ok_same : {A : Type 0} (a b : A) → (let found : Reading A = Ok a in found ≡ Ok b) → a ≡ b
ok_same a b h = cc

same_row : (a b : RowView) → a.values ≡ b.values → a.definitions ≡ b.definitions → a.image ≡ b.image → a ≡ b
same_row a b v d i =
    ap (λ (l : List (Option Kept)). seen l a.definitions a.image) v ∙ ap (λ (l : List ColumnParts). seen b.values l a.image) d ∙ ap (λ (o : Option (List ImageColumn)). seen b.values b.definitions o) i
  where
    seen : List (Option Kept) → List ColumnParts → Option (List ImageColumn) → RowView
    seen values definitions image = record { values = values; definitions = definitions; image = image }

-- a row that the bytes encode is one of the image that they begin with
encoding_is : (c : BinlogRowCtx) (image : RowImage) (bytes rest : List ℕ) (w : RowView) → image_of_ctx c ≡ Ok (image_read image) → (t : Begins (Alone (IsRowField c) w) bytes rest)
    → (t.is.shape ≡ image_read image) × (image_at (image_read image) bytes ≡ Ok (t.is.cells, rest))
encoding_is c image bytes rest w shape t =
    let same : t.is.shape ≡ image_read image = ok_same t.is.shape (image_read image) (sym t.is.shape_is ∙ shape) in
    let here = image-here (image_read image) t.is.cells t.bytes rest (subst (λ (z : ImageShape). IsImage z t.is.cells t.bytes) same t.is.image_is) in
    (same, ap (image_at (image_read image)) t.joined ∙ here)

pub row_read : (c : BinlogRowCtx) (image : RowImage) (bytes rest : List ℕ) (row : BinlogRow) → image_of_ctx c ≡ Ok (image_read image) → definitions_of_ctx c ≡ Ok (map parts_of (rc_slice_items image.definitions))
    → IsReadRow image bytes row rest → Reads (Alone (IsRowField c)) (row_view row) bytes rest
row_read c image bytes rest row shape defined h =
    let own = image-is (image_read image) bytes (h.image, rest) h.read in
    let kept = kept_cells h.image (row_values row) h.row_is.values in
    let definitions : definitions_of_ctx c ≡ Ok (row_view row).definitions = defined ∙ ap (λ (l : List Column). Ok (map parts_of l)) (sym h.row_is.columns) in
    record {
      begins = record {
        bytes = own.0;
        joined = own.1;
        is = record { shape = image_read image; shape_is = shape; cells = h.image; image_is = own.2; values_are = kept; definitions_are = definitions; columns_are = h.row_is.columns_are_of };
      };
      only = λ w s t.
          let other = encoding_is c image bytes s w shape t in
          let p = ok_pair h.image rest (t.is.cells, s) (sym h.read ∙ other.1) in
          let values = one_list h.image (row_view row).values w.values kept (subst (λ (l : List ColumnValue). AllZip IsKeptValue l w.values) (sym p.0) t.is.values_are) in
          let defined_so = ok_same (row_view row).definitions w.definitions (sym definitions ∙ t.is.definitions_are) in
          let columns = h.row_is.columns_are_of ∙ ap (λ (z : ImageShape). Some z.columns) (sym other.0) ∙ sym t.is.columns_are in
          (sym p.1, same_row (row_view row) w values defined_so columns);
    }

-- ---- why none is read

lacks_row : (c : BinlogRowCtx) (image : RowImage) (bytes : List ℕ) (e : RowsError) → image_of_ctx c ≡ Ok (image_read image) → image_at (image_read image) bytes ≡ Err e → Lacks (Alone (IsRowField c)) bytes
lacks_row c image bytes e shape h v rest t =
    let both : ◌≡◌ {A = Reading (List ColumnValue × List ℕ)} (Err e) (Ok (t.is.cells, rest)) = sym h ∙ (encoding_is c image bytes rest v shape t).1 in
    absurd (cc both)

pub no_row : (c : BinlogRowCtx) (image : RowImage) (bytes : List ℕ) (e : RowsError) → image_of_ctx c ≡ Ok (image_read image) → e ≡ Memory ⊎ image_at (image_read image) bytes ≡ Err e → e ≡ Memory ⊎ Lacks (Alone (IsRowField c)) bytes
no_row c image bytes e shape h = elim h as (λ _. e ≡ Memory ⊎ Lacks (Alone (IsRowField c)) bytes) [ inl m ↦ inl m | inr f ↦ inr (lacks_row c image bytes e shape f) ]

-- ---- the image by a plan of the map

image_by : (c : BinlogRowCtx) (n : ℕ) → n ≡ c.num_columns → (if n == c.num_columns then shape_picked (map_plan c.table_map.now) c.num_columns c.has_shared_image (bit_at c.columns) else Err Metadata) ≡ shape_picked (map_plan c.table_map.now) n c.has_shared_image (bit_at c.columns)
image_by c n e = elim (eqb_tells n c.num_columns) [ inl t ↦ rw t.0 (ap (λ (k : ℕ). shape_picked (map_plan c.table_map.now) k c.has_shared_image (bit_at c.columns)) (sym e)) | inr t ↦ absurd (t.1 e) ]

-- the plan of a table map selects the same image as the map
pub planned_image : (c : BinlogRowCtx) (plan : ColumnPlan) → IsPlanOf plan c.table_map.now → len_of c.columns ≡ c.num_columns → image_of_ctx c ≡ shape_picked (table_plan plan) (len_of c.columns) c.has_shared_image (bit_at c.columns)
planned_image c plan is len = image_by c (len_of c.columns) len ∙ rw (← is.columns (len_of c.columns), ← is.json_columns) refl

-- and defines its columns
pub planned_definitions : (c : BinlogRowCtx) (plan : ColumnPlan) → IsPlanOf plan c.table_map.now → len_of c.columns ≡ c.num_columns
    → definitions_of_ctx c ≡ picked_as (definition plan.database.items plan.table.items) (bit_at c.columns) (planned plan.run (len_of c.columns))
planned_definitions c plan is len = rw (← len, ← is.columns (len_of c.columns), ← is.database, ← is.table) refl
