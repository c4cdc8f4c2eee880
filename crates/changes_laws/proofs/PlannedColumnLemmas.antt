-- The columns of images are columns of their table, in ascending order.
use Rattle.std.proofs.Common.{◌≡◌, ℕ, zero, suc, ◌+◌, ◌<◌, ◌≤◌, Bool, true, false, List, [], ◌∷◌, ◌++◌, map, length, refl, subst, arith, add-one, Option, Some, None}
use Rattle.std.specs.Prelude.{filter, if◌then◌else◌, slice_get}
use Rattle.std.specs.declared.result.Result.TheVariants.{Ok}
use Rattle.rows_errors.specs.declared.fault.RowsError.TheVariants.{Metadata, EmptyPair}
use Rattle.rows_table_map.specs.ColumnMetadata.{ColumnMeta, columns_with_metadata}
use Rattle.rows_table_map.specs.TableMaps.{TableMap}
use Rattle.rows_table_map.specs.Extracted.{extracted}
use Rattle.rows_table_map.specs.MetadataFields.{fields}
use Rattle.rows_cells.specs.Images.{ImageShape}
use Rattle.rows_cells.specs.declared.image.ImageColumn.{ImageColumn}
use Rattle.rows_event_body.specs.EventShapes.{event_shapes, shape_by, shapes_by, column_bit}
use Rattle.rows_event_body.specs.PickedColumns.{image_column, is_picked, picked, picked_as}
use Rattle.rows_event_body.specs.Plans.{PlannedColumn, Table, table_columns_of, column_real_type, column_at, first_columns, charset_at, name_at, key_at}
use Rattle.rows_event_body.specs.RowsEvents.{RowsBody}
use Rattle.rows_event_body.specs.RowsEventTypes.{images_of, has_partial_after}
use Rattle.feed_transactions.specs.MappedRows.{plan_by}
use Rattle.changes_laws.proofs.ReadingGives.{Gives, given, fails, next}
use Rattle.changes_laws.proofs.SoundCellLemmas.{EachHolds}

-- columns from one on, in ascending order, below a number
abbrev pub AreRising : ℕ → ℕ → List ImageColumn → Type 0
AreRising least n [] = Unit {0}
AreRising least n (c ∷ cs) = (least ≤ c.column) × (c.column < n) × AreRising (c.column + 1) n cs

-- the same of planned columns
abbrev ArePlanned : ℕ → ℕ → List PlannedColumn → Type 0
ArePlanned least n [] = Unit {0}
ArePlanned least n (c ∷ cs) = (least ≤ c.image.column) × (c.image.column < n) × ArePlanned (c.image.column + 1) n cs

within : {A : Type 0} (l : List A) (i : ℕ) (x : A) → slice_get l i ≡ Some x → i < length l
within [] i x e = absurd cc
within (y ∷ ys) zero x e = omega arith
within (y ∷ ys) (suc i) x e = omega (arith, within ys i x e)

abbrev IsWithin : Table → ℕ → PlannedColumn → Type 0
IsWithin t i c = (c.image.column ≡ i) × (i < length t.columns)

real_within : (t : Table) (i : ℕ) → Gives (λ real. i < length t.columns) (column_real_type (slice_get t.columns i))
real_within t i = go (slice_get t.columns i) refl
  where
    go : (o : Option ColumnMeta) → slice_get t.columns i ≡ o → Gives (λ real. i < length t.columns) (column_real_type o)
    go None e = fails (λ real. i < length t.columns) Metadata
    go (Some c) e = record { each = λ x h. within t.columns i c e }

column_within : (t : Table) (i : ℕ) → Gives (IsWithin t i) (column_at t i)
unfolding column_at
column_within t i =
    next (λ real. i < length t.columns) (IsWithin t i) (column_real_type (slice_get t.columns i)) _ (real_within t i)
    (λ real lt. next (λ x. Unit {0}) (IsWithin t i) (charset_at t i real) _ (record { each = λ x h. tt })
    (λ charset u. next (λ x. Unit {0}) (IsWithin t i) (name_at t.names i) _ (record { each = λ x h. tt })
    (λ name v. next (λ x. Unit {0}) (IsWithin t i) (key_at t i) _ (record { each = λ x h. tt }) (λ is_key w. given (IsWithin t i) _ (refl, lt)))))

pushed : (least n k : ℕ) (cs : List PlannedColumn) (c : PlannedColumn) → ArePlanned least n cs → EachHolds (λ (d : PlannedColumn). d.image.column < k) cs → c.image.column ≡ k → least ≤ k → k < n → ArePlanned least n (cs ++ c ∷ [])
pushed least n k [] c a below e le lt = (omega (arith, e, le), omega (arith, e, lt), tt)
pushed least n k (d ∷ cs) c a below e le lt = (a.0, a.1, pushed (d.image.column + 1) n k cs c a.2 below.1 e (omega (arith, below.0)) lt)

below_pushed : (k : ℕ) (cs : List PlannedColumn) (c : PlannedColumn) → EachHolds (λ (d : PlannedColumn). d.image.column < k) cs → c.image.column ≡ k → EachHolds (λ (d : PlannedColumn). d.image.column < k + 1) (cs ++ c ∷ [])
below_pushed k [] c below e = (omega (arith, e), tt)
below_pushed k (d ∷ cs) c below e = (omega (arith, below.0), below_pushed k cs c below.1 e)

abbrev AreFirst : Table → ℕ → List PlannedColumn → Type 0
AreFirst t n cs = ArePlanned 0 (length t.columns) cs × EachHolds (λ (d : PlannedColumn). d.image.column < n) cs

first_planned : (t : Table) (n : ℕ) → Gives (AreFirst t n) (first_columns t n)
unfolding first_columns
first_planned t zero = given (AreFirst t 0) [] (tt, tt)
first_planned t (suc n) =
    next (AreFirst t n) (AreFirst t (suc n)) (first_columns t n) _ (first_planned t n)
    (λ cs f. next (IsWithin t n) (AreFirst t (suc n)) (column_at t n) _ (column_within t n)
    (λ c w. given (AreFirst t (suc n)) (cs ++ c ∷ [])
    (pushed 0 (length t.columns) n cs c f.0 f.1 w.0 (omega arith) w.1, subst (λ (k : ℕ). EachHolds (λ (d : PlannedColumn). d.image.column < k) (cs ++ c ∷ [])) (add-one n) (below_pushed n cs c f.1 w.0))))

lower : (least more n : ℕ) (cs : List ImageColumn) → least ≤ more → AreRising more n cs → AreRising least n cs
lower least more n [] le a = tt
lower least more n (c ∷ cs) le a = (omega (arith, le, a.0), a.1, a.2)

picked_rising : (least n : ℕ) (p : PlannedColumn → Bool) (cs : List PlannedColumn) → ArePlanned least n cs → AreRising least n (map image_column (filter p cs))
picked_rising least n p [] a = tt
picked_rising least n p (c ∷ cs) a = go (p c) (picked_rising (c.image.column + 1) n p cs a.2)
  where
    go : (b : Bool) → AreRising (c.image.column + 1) n (map image_column (filter p cs)) → AreRising least n (map image_column (if b then c ∷ filter p cs else filter p cs))
    go true more = (a.0, a.1, more)
    go false more = lower least (c.image.column + 1) n (map image_column (filter p cs)) (omega (arith, a.0)) more

-- ---- by a table map
-- the columns of a shape are columns of a table with so many, in ascending order
abbrev pub IsRisingShape : ℕ → ImageShape → Type 0
IsRisingShape n s = AreRising 0 n s.columns

abbrev columns_of : TableMap → List ColumnMeta
columns_of m = columns_with_metadata m.column_types (Some m.metadata)

plan_planned : (m : TableMap) (n : ℕ) → Gives (ArePlanned 0 (length (columns_of m))) ((plan_by m).first n)
plan_planned m n =
    next (λ e. Unit {0}) (ArePlanned 0 (length (columns_of m))) (extracted (fields m.column_types m.optional_metadata)) _ (record { each = λ x h. tt })
    (λ e u. record { each = λ cs h. ((first_planned (table_columns_of (columns_of m) e) n).each cs h).0 })

shape_rising : (m : TableMap) (n : ℕ) (is_partial : Bool) (bits : List ℕ) → Gives (IsRisingShape (length (columns_of m))) (shape_by (plan_by m) n is_partial bits)
shape_rising m n is_partial bits =
    let size = length (columns_of m) in
    next (AreRising 0 size) (IsRisingShape size) (picked_as image_column (column_bit n bits) ((plan_by m).first n)) _
    (next (ArePlanned 0 size) (AreRising 0 size) ((plan_by m).first n) _ (plan_planned m n) (λ cs a. given (AreRising 0 size) (map image_column (picked (column_bit n bits) cs)) (picked_rising 0 size (is_picked (column_bit n bits)) cs a)))
    (λ columns a. given (IsRisingShape size) _ a)

abbrev pub AreRisingShapes : ℕ → List ImageShape → Type 0
AreRisingShapes n shapes = EachHolds (IsRisingShape n) shapes

by_images : (m : TableMap) (n : ℕ) (is_partial : Bool) (before after : Option (List ℕ)) → Gives (AreRisingShapes (length (columns_of m))) (shapes_by (plan_by m) n is_partial before after)
by_images m n is_partial None None = fails (AreRisingShapes (length (columns_of m))) EmptyPair
by_images m n is_partial (Some before) None = next (IsRisingShape (length (columns_of m))) (AreRisingShapes (length (columns_of m))) (shape_by (plan_by m) n false before) _ (shape_rising m n false before) (λ s a. given (AreRisingShapes (length (columns_of m))) (s ∷ []) (a, tt))
by_images m n is_partial None (Some after) = next (IsRisingShape (length (columns_of m))) (AreRisingShapes (length (columns_of m))) (shape_by (plan_by m) n is_partial after) _ (shape_rising m n is_partial after) (λ s a. given (AreRisingShapes (length (columns_of m))) (s ∷ []) (a, tt))
by_images m n is_partial (Some before) (Some after) =
    next (IsRisingShape (length (columns_of m))) (AreRisingShapes (length (columns_of m))) (shape_by (plan_by m) n false before) _ (shape_rising m n false before)
    (λ s a. next (IsRisingShape (length (columns_of m))) (AreRisingShapes (length (columns_of m))) (shape_by (plan_by m) n is_partial after) _ (shape_rising m n is_partial after) (λ t b. given (AreRisingShapes (length (columns_of m))) (s ∷ t ∷ []) (a, (b, tt))))

pub shapes_rising : (m : TableMap) (r : RowsBody) (shapes : List ImageShape) → event_shapes r (plan_by m) ≡ Ok shapes → AreRisingShapes (length (columns_of m)) shapes
shapes_rising m r shapes e = (by_images m r.columns (has_partial_after (images_of r.event_type)) r.before r.after).each shapes e
