-- The columns of images, by the bits that an event has.
use Rattle.std.proofs.Common.{◌≡◌, ◌⊎◌, inl, inr, ℕ, Bool, false, List, [], ◌∷◌, map, Option, Some, None, Ok, Err, refl, sym, ap, ◌∙◌, if◌then◌else◌}
use Rattle.std.specs.Prelude.{filter, nat_lt, IfOk, IfErr}
use Rattle.std.specs.declared.result.Result.{Result}
use Rattle.rows_table_map.specs.BitLists.{bit_of, bit_at, len_of, lowest_bit}
use Rattle.rows_table_map.specs.declared.bits.Bits.{Bits}
use Rattle.rows_errors.specs.declared.fault.RowsError.{RowsError}
use Rattle.rows_errors.specs.declared.fault.RowsError.TheVariants.{EmptyPair, Memory}
use Rattle.rows_errors.specs.Readings.{Reading, ◌>>=◌}
use Rattle.rows_cells.specs.Images.{ImageShape}
use Rattle.rows_cells.specs.declared.image.ImageColumn.{ImageColumn}
use Rattle.rows_event_body.specs.Plans.{PlannedColumn}
use Rattle.rows_event_body.specs.PickedColumns.{is_picked, picked_as, bit_is_set, image_column, definition}
use Rattle.std.specs.Rc.{rc_slice_items}
use Rattle.rows_values.specs.Columns.{parts_of}
use Rattle.rows_event_body.specs.PlanViews.{planned}
use Rattle.rows_event_body.specs.ImageShapes.{TablePlan, table_plan, shape_picked}
use Rattle.rows_event_body.specs.declared.plan.ColumnPlan.{ColumnPlan}
use Rattle.rows_event_body.specs.RowImages.{image_read}
use Rattle.rows_event_body.specs.declared.row_image.RowImage.{RowImage}
use Rattle.rows_event_body.specs.RowPairs.{planned_table}
use Rattle.rows_event_body.specs.EventImages.{ReadsImage}
use Rattle.rows_event_body.specs.RowsFieldViews.{ShowsBits}
use Rattle.rows_event_body.specs.EventShapes.{column_bit, shape_by, shapes_by}

-- tests that agree select the same elements
same_filter : {A : Type 0} (f g : A → Bool) → ((x : A) → f x ≡ g x) → (xs : List A) → filter f xs ≡ filter g xs
same_filter f g h [] = refl
same_filter f g h (x ∷ xs) = rw (h x, same_filter f g h xs) refl

-- the bits of an image as the event has them
pub record Shown (n : ℕ) (all : Option (List ℕ)) (bits : Bits) : Type 0 where
  pub bytes : List ℕ
  pub all_are : all ≡ Some bytes
  pub len : len_of bits ≡ n
  pub each : (i : ℕ) → bit_of bits i ≡ lowest_bit bytes i

pub shown_bits : (n : ℕ) (all : Option (List ℕ)) (r : Option Bits) (bits : Bits) → ShowsBits n all r → r ≡ Some bits → Shown n all bits
shown_bits n None None bits h e = absurd cc
shown_bits n None (Some b) bits h e = absurd h
shown_bits n (Some bytes) None bits h e = absurd cc
shown_bits n (Some bytes) (Some b) bits h e =
    let same : b ≡ bits = cc in
    record { bytes = bytes; all_are = refl; len = ap len_of (sym same) ∙ h.0; each = λ i. ap (λ (x : Bits). bit_of x i) (sym same) ∙ h.1 i }

pub no_bits : (n : ℕ) (all : Option (List ℕ)) (r : Option Bits) → ShowsBits n all r → r ≡ None → all ≡ None
no_bits n None r h e = refl
no_bits n (Some bytes) None h e = absurd h
no_bits n (Some bytes) (Some b) h e = absurd cc

same_bit : (n : ℕ) (all : Option (List ℕ)) (bits : Bits) (s : Shown n all bits) (i : ℕ) → bit_at bits i ≡ column_bit n s.bytes i
same_bit n all bits s i = ap (λ (k : ℕ). if nat_lt i k then Some (bit_of bits i) else None) s.len ∙ ap (λ (b : Bool). if nat_lt i n then Some b else None) (s.each i)

same_picked : {A : Type 0} (f : PlannedColumn → A) (n : ℕ) (all : Option (List ℕ)) (bits : Bits) (s : Shown n all bits) (columns : Reading (List PlannedColumn)) → picked_as f (bit_at bits) columns ≡ picked_as f (column_bit n s.bytes) columns
same_picked f n all bits s (Err e) = refl
same_picked f n all bits s (Ok cs) = ap (λ l. Ok (map f l)) (same_filter (is_picked (bit_at bits)) (is_picked (column_bit n s.bytes)) (λ c. ap bit_is_set (same_bit n all bits s c.image.column)) cs)

-- the image that the bits select is that of the event
pub same_shape : (p : TablePlan) (n : ℕ) (part : Bool) (all : Option (List ℕ)) (bits : Bits) (s : Shown n all bits) → shape_picked p (len_of bits) part (bit_at bits) ≡ shape_by p n part s.bytes
same_shape p n part all bits s =
    ap (λ (k : ℕ). shape_picked p k part (bit_at bits)) s.len
    ∙ ap (λ (r : Reading (List ImageColumn)). r >>= λ columns. Ok (record { columns = columns; json_columns = if part then Some p.json_columns else None })) (same_picked image_column n all bits s (p.first n))

pub one_image : (p : TablePlan) (n : ℕ) (part : Bool) (before after : Option (List ℕ)) (bytes : List ℕ) (s : ImageShape) → before ≡ Some bytes → after ≡ None → shape_by p n false bytes ≡ Ok s → shapes_by p n part before after ≡ Ok (s ∷ [])
one_image p n part before after bytes s b a h = rw (b, a, h) refl

pub after_image : (p : TablePlan) (n : ℕ) (part : Bool) (before after : Option (List ℕ)) (bytes : List ℕ) (s : ImageShape) → before ≡ None → after ≡ Some bytes → shape_by p n part bytes ≡ Ok s → shapes_by p n part before after ≡ Ok (s ∷ [])
after_image p n part before after bytes s b a h = rw (b, a, h) refl

pub two_images : (p : TablePlan) (n : ℕ) (part : Bool) (before after : Option (List ℕ)) (x y : List ℕ) (s t : ImageShape) → before ≡ Some x → after ≡ Some y
    → shape_by p n false x ≡ Ok s → shape_by p n part y ≡ Ok t → shapes_by p n part before after ≡ Ok (s ∷ t ∷ [])
two_images p n part before after x y s t b a h k = rw (b, a, h, k) refl

-- ---- which error

pub first_fails : (p : TablePlan) (n : ℕ) (part : Bool) (before after : Option (List ℕ)) (bytes : List ℕ) (e : RowsError) → before ≡ Some bytes → shape_by p n false bytes ≡ Err e → shapes_by p n part before after ≡ Err e
first_fails p n part before None bytes e b h = rw (b, h) refl
first_fails p n part before (Some y) bytes e b h = rw (b, h) refl

pub after_fails : (p : TablePlan) (n : ℕ) (part : Bool) (before after : Option (List ℕ)) (bytes : List ℕ) (e : RowsError) → before ≡ None → after ≡ Some bytes → shape_by p n part bytes ≡ Err e → shapes_by p n part before after ≡ Err e
after_fails p n part before after bytes e b a h = rw (b, a, h) refl

pub second_fails : (p : TablePlan) (n : ℕ) (part : Bool) (before after : Option (List ℕ)) (x y : List ℕ) (s : ImageShape) (e : RowsError) → before ≡ Some x → after ≡ Some y
    → shape_by p n false x ≡ Ok s → shape_by p n part y ≡ Err e → shapes_by p n part before after ≡ Err e
second_fails p n part before after x y s e b a h k = rw (b, a, h, k) refl

pub no_images : (p : TablePlan) (n : ℕ) (part : Bool) (before after : Option (List ℕ)) → before ≡ None → after ≡ None → shapes_by p n part before after ≡ Err EmptyPair
no_images p n part before after b a = rw (b, a) refl

-- the second of two facts implies another
pub or_still : {P Q R : Type 0} → (Q → R) → P ⊎ Q → P ⊎ R
or_still f (inl p) = inl p
or_still f (inr q) = inr (f q)

pub err_still : {A : Type 0} (r : Result A RowsError) (P Q : RowsError → Type 0) → ((e : RowsError) → P e → Q e) → IfErr r (λ e. e ≡ Memory ⊎ P e) → IfErr r (λ e. e ≡ Memory ⊎ Q e)
err_still (Ok x) P Q f h = h
err_still (Err e) P Q f h = or_still (f e) h

-- what follows from a success still holds
pub ok_still : {A E : Type 0} (r : Result A E) (P Q : Type 0) → (P → Q) → IfOk r (λ x. P) → IfOk r (λ x. Q)
ok_still (Ok x) P Q f h = f h
ok_still (Err e) P Q f h = h

-- the image that was selected is that of the event
pub picked_shape : (p : TablePlan) (n : ℕ) (said part : Bool) (all : Option (List ℕ)) (bits : Bits) (s : Shown n all bits) (o : Reading ImageShape) → said ≡ part → shape_picked p (len_of bits) said (bit_at bits) ≡ o → shape_by p n part s.bytes ≡ o
picked_shape p n said part all bits s o e h = sym (same_shape p n part all bits s) ∙ ap (λ (b : Bool). shape_picked p (len_of bits) b (bit_at bits)) (sym e) ∙ h

-- the reader made from an event's bits reads the event's image
pub reads_image : (plan : ColumnPlan) (n : ℕ) (said part : Bool) (all : Option (List ℕ)) (bits : Bits) (s : Shown n all bits) (image : RowImage) → said ≡ part
    → shape_picked (table_plan plan) (len_of bits) said (bit_at bits) ≡ Ok (image_read image)
    → picked_as (definition plan.database.items plan.table.items) (bit_at bits) (planned plan.run (len_of bits)) ≡ Ok (map parts_of (rc_slice_items image.definitions))
    → ReadsImage (planned_table plan) n part s.bytes image
reads_image plan n said part all bits s image e shape defined = record {
  shape = picked_shape (table_plan plan) n said part all bits s (Ok (image_read image)) e shape;
  definitions = sym (same_picked (definition plan.database.items plan.table.items) n all bits s (planned plan.run n))
      ∙ ap (λ (k : ℕ). picked_as (definition plan.database.items plan.table.items) (bit_at bits) (planned plan.run k)) (sym s.len) ∙ defined;
}
