-- A rows event with other rows under another table id and other flags.
use Rattle.std.proofs.Common.{◌≡◌, ◌<◌, ◌-◌, ◌++◌, ℕ, Bool, true, false, List, [], length, take, drop, Option, Some, None, Ok, Err, refl, sym, ap, subst, ◌∙◌, arith, append_assoc}
use Rattle.std.specs.Prelude.{◌==◌, Result, OnOk, IfErr}
use Rattle.std.specs.Bool.{⊤}
use Rattle.std.proofs.lemmas.Bool.{ne_eqb}
use Rattle.rows_table_map.specs.TableMaps.{TableMap}
use Rattle.rows_table_map.specs.MapViews.{map_of}
use Rattle.rows_event_body.specs.ImageShapes.{table_plan}
use Rattle.rows_event_body.specs.EventColumnViews.{shapes_of}
use Rattle.feed_transactions.specs.declared.tables.Tables.{Tables}
use Rattle.feed_checks.specs.declared.verdict.Verdict.{Verdict}
use Rattle.feed_transactions.specs.RowLines.{PutsLines, IsRowsError, rows_texts_at}
use Rattle.feed_transactions.specs.Tables.{mapped}
use Rattle.feed_transactions.specs.PlannedRows.{FindsRows, PutsPlannedRows, IsPlannedRowsError}
use Rattle.feed_transactions.specs.declared.planned_rows.PlannedRows.{PlannedRows}
use Rattle.feed_transactions.specs.declared.known_images.UsualRows.{UsualRows}
use Rattle.feed_transactions.proofs.RowLineLemmas.{lines_put, lines_unput}
use Rattle.std.specs.Prelude.{option_map, if◌then◌else◌}
use Rattle.std.proofs.lemmas.List.{length-append, take-append-drop, length-take-le}
use Rattle.std.proofs.Math.ListN.{length-drop}
use Rattle.std.proofs.Math.Seq.{take-append_seam, drop-append_seam}
use Rattle.byteorder.specs.Endian.{little_number}
use Rattle.byteorder.specs.Numbers.{little_from-append}
use Rattle.rows_cells.specs.Images.{ImageShape}
use Rattle.rows_event_body.specs.ImageShapes.{TablePlan}
use Rattle.rows_table_map.specs.TableMaps.{plain_bytes, id_width}
use Rattle.rows_event_body.specs.EventShapes.{event_shapes}
use Rattle.rows_event_body.specs.RowsEventFields.{IsMaybe, IsExtra}
use Rattle.rows_event_body.specs.RowsEvents.{RowsBody, IsRowsEvent, written_ctx}
use Rattle.rows_event_body.specs.RowsEventTypes.{images_of, writes_extra}
use Rattle.rows_event_body.specs.declared.rows_event_type.RowsEventType.{RowsEventType}
use Rattle.feed_checks.specs.BodyReaders.{rows_event_in}
use Rattle.feed_transactions.specs.KnownImages.{rows_event_of, IsBodyOfRows, KnowsImages}
use Rattle.feed_transactions.specs.MappedRows.{change_by, change_of, plan_by}
use Rattle.feed_transactions.specs.RowTexts.{change_word, start_of}
use Rattle.feed_checks.proofs.BodyLemmas.{rows_event_body}
use Rattle.feed_checks.proofs.ReaderLemmas.{some_is}

-- the fields don't depend on the bytes after them
extra_before : (c : Option (Unit {0})) (v : Option (List ℕ)) (bytes rest other : List ℕ) → IsMaybe (λ u. IsExtra) c v bytes rest → IsMaybe (λ u. IsExtra) c v bytes other
extra_before None None bytes rest other h = h
extra_before (Some c) (Some v) bytes rest other h =
    let e = h.encoding_is in
    record { size = h.size; encoding_is = record { prefix = e.prefix; suffix = e.suffix; joined = e.joined; first_is = e.first_is; second_is = e.second_is } }
extra_before None (Some v) bytes rest other h = absurd h
extra_before (Some c) None bytes rest other h = absurd h

bits_before : (c : Option ℕ) (v : Option (List ℕ)) (bytes rest other : List ℕ) → IsMaybe plain_bytes c v bytes rest → IsMaybe plain_bytes c v bytes other
bits_before None None bytes rest other h = h
bits_before (Some c) (Some v) bytes rest other h = h
bits_before None (Some v) bytes rest other h = absurd h
bits_before (Some c) None bytes rest other h = absurd h

six : (b : Bool) → id_width (if b then 10 else 8) ≡ 6
six true = refl
six false = refl

regroup : (a b c d e f g : List ℕ) → (a ++ (b ++ c)) ++ (d ++ (e ++ (f ++ g))) ≡ (a ++ b) ++ ((c ++ (d ++ (e ++ f))) ++ g)
regroup a b c d e f g =
    let rest : List ℕ = d ++ (e ++ (f ++ g)) in
    append_assoc a (b ++ c) rest ∙ ap (λ (l : List ℕ). a ++ l) (append_assoc b c rest) ∙ sym (append_assoc a b (c ++ rest))
    ∙ ap (λ (l : List ℕ). (a ++ b) ++ l)
    (sym (append_assoc c (d ++ (e ++ f)) g ∙ ap (λ (l : List ℕ). c ++ l) (append_assoc d (e ++ f) g ∙ ap (λ (l : List ℕ). d ++ l) (append_assoc e f g))))

-- the bytes of a rows event: table id and flags, the fields up to the rows, the rows
record Split (t : RowsEventType) (r : RowsBody) (x : List ℕ) : Type 0 where
  head : List ℕ
  fields : List ℕ
  head_size : length head ≡ 8
  joined : x ≡ head ++ (fields ++ r.rows_data)
  type_is : r.event_type ≡ t
  again : (other rows_data : List ℕ) → length other ≡ 8
      → IsRowsEvent (written_ctx t) (record r { table_id = little_number 6 other; flags = little_number 2 (drop 6 other); rows_data = rows_data }) (other ++ (fields ++ rows_data)) []

split : (t : RowsEventType) (r : RowsBody) (x : List ℕ) → rows_event_in (written_ctx t) x ≡ Some r → Split t r x
split t r x is =
    let all = (rows_event_body (written_ctx t) r x).0 is in
    let event = all.1 in
    let head = event.first_is in
    let flags = head.second_is in
    let counted = event.second_is in
    let images = counted.second_is in
    let after = images.second_is in
    let width : id_width (written_ctx t).post_header_len ≡ 6 = six (writes_extra t) in
    let data_is : after.suffix ≡ r.rows_data = sym after.second_is.bytes_are in
    record {
      head = head.prefix ++ flags.prefix;
      fields = flags.suffix ++ (counted.prefix ++ (images.prefix ++ after.prefix));
      head_size = omega (arith, length-append head.prefix flags.prefix, head.first_is.size, flags.first_is.size, width);
      joined = event.joined
          ∙ (λ i. (head.joined ∙ ap (λ (l : List ℕ). head.prefix ++ l) flags.joined) i ++ (counted.joined ∙ ap (λ (l : List ℕ). counted.prefix ++ l) (images.joined ∙ ap (λ (l : List ℕ). images.prefix ++ l) (after.joined ∙ ap (λ (l : List ℕ). after.prefix ++ l) data_is))) i)
          ∙ regroup head.prefix flags.prefix flags.suffix counted.prefix images.prefix after.prefix r.rows_data;
      type_is = all.0;
      again = λ other rows_data size. (
        all.0,
        record {
          prefix = take 6 other ++ (drop 6 other ++ flags.suffix);
          suffix = counted.prefix ++ (images.prefix ++ (after.prefix ++ rows_data));
          joined = ap (λ (l : List ℕ). l ++ ((flags.suffix ++ (counted.prefix ++ (images.prefix ++ after.prefix))) ++ rows_data)) (sym (take-append-drop 6 other))
              ∙ sym (regroup (take 6 other) (drop 6 other) flags.suffix counted.prefix images.prefix after.prefix rows_data);
          first_is = record {
            prefix = take 6 other;
            suffix = drop 6 other ++ flags.suffix;
            joined = refl;
            first_is = record { size = length-take-le 6 other (omega (arith, size)) ∙ sym width; value_is = id_is other size ∙ ap (λ (n : ℕ). little_number n (take 6 other)) (sym width) };
            second_is = record {
              prefix = drop 6 other;
              suffix = flags.suffix;
              joined = refl;
              first_is = record { size = omega (arith, length-drop 6 other, size); value_is = refl };
              second_is = extra_before _ r.extra flags.suffix _ _ flags.second_is;
            };
          };
          second_is = record {
            prefix = counted.prefix;
            suffix = images.prefix ++ (after.prefix ++ rows_data);
            joined = refl;
            first_is = counted.first_is;
            second_is = record {
              prefix = images.prefix;
              suffix = after.prefix ++ rows_data;
              joined = refl;
              first_is = bits_before _ r.before images.prefix _ _ images.first_is;
              second_is = record { prefix = after.prefix; suffix = rows_data; joined = refl; first_is = bits_before _ r.after after.prefix _ _ after.first_is; second_is = record { bytes_are = refl; ends = refl } };
            };
          };
        },
      );
    }
  where
    id_is : (other : List ℕ) → length other ≡ 8 → little_number 6 other ≡ little_number 6 (take 6 other)
    id_is other size =
        sym (ap (little_number 6) (take-append-drop 6 other)) ∙ little_from-append 6 (take 6 other) (drop 6 other) (omega (arith, length-take-le 6 other (omega (arith, size))))

-- the bytes before the rows end with the fields
fields_are : (x head fields rows_data : List ℕ) → length head ≡ 8 → x ≡ head ++ (fields ++ rows_data) → drop 8 (take (length x - length rows_data) x) ≡ fields
fields_are x head fields rows_data size joined =
    let is : x ≡ (head ++ fields) ++ rows_data = joined ∙ sym (append_assoc head fields rows_data) in
    let n : length x - length rows_data ≡ length (head ++ fields) = omega (arith, ap length is, length-append (head ++ fields) rows_data) in
    ap (λ (l : List ℕ). drop 8 (take (length x - length rows_data) l)) is ∙ ap (λ (i : ℕ). drop 8 (take i ((head ++ fields) ++ rows_data))) n
    ∙ ap (λ (l : List ℕ). drop 8 l) (take-append_seam (head ++ fields) rows_data) ∙ ap (λ (i : ℕ). drop i (head ++ fields)) (sym size) ∙ drop-append_seam head fields

-- the event with other rows under another table id and other flags
with_rows : RowsBody → List ℕ → List ℕ → RowsBody
with_rows r head rows_data = record r { table_id = little_number 6 head; flags = little_number 2 (drop 6 head); rows_data = rows_data }

-- the fields of an event, with its images by a plan, are known for other events
pub known_by : (t : RowsEventType) (r : RowsBody) (x : List ℕ) (p : TablePlan) (shapes : List ImageShape) (names start : List ℕ) → rows_event_in (written_ctx t) x ≡ Some r → event_shapes r p ≡ Ok shapes
    → start ≡ change_word (change_by (images_of r.event_type)) ++ names → KnowsImages t (drop 8 (take (length x - length r.rows_data) x)) p shapes names start
unfolding with_rows
known_by t r x p shapes names start is shapes_are begins =
    let s = split t r x is in
    let same = fields_are x s.head s.fields r.rows_data s.head_size s.joined in
    let found : (head rows_data : List ℕ) → length head ≡ 8 → rows_event_of t head (drop 8 (take (length x - length r.rows_data) x)) rows_data ≡ Some (with_rows r head rows_data) =
    λ head rows_data size.
    let other : rows_event_of t head s.fields rows_data ≡ Some (with_rows r head rows_data) =
    (rows_event_body (written_ctx t) (with_rows r head rows_data) (head ++ (s.fields ++ rows_data))).1 (s.again head rows_data size) in
    ap (λ (f : List ℕ). rows_event_of t head f rows_data) same ∙ other in
    record {
      table_ids = λ head rows_data size. ap (option_map (λ e. e.table_id)) (found head rows_data size);
      rows = λ head rows_data size. ap (option_map (λ e. e.rows_data)) (found head rows_data size);
      shapes_are = λ head rows_data size. ap (option_map (λ e. event_shapes e p)) (found head rows_data size) ∙ ap Some shapes_are;
      start_is = begins ∙ ap (λ (u : RowsEventType). change_word (change_by (images_of u)) ++ names) s.type_is;
    }

-- the same, for the fields that were kept of a usual event
pub known_kept : (u : UsualRows) (r : RowsBody) (p : TablePlan) (shapes : List ImageShape) (names start fields : List ℕ) (now : Option RowsEventType) (rows_len : ℕ) → IsBodyOfRows u r → event_shapes r p ≡ Ok shapes
    → start ≡ change_word (change_by (images_of r.event_type)) ++ names → rows_len ≡ length r.rows_data
    → ((t : RowsEventType) → now ≡ Some t → (u.event_type ≡ t) × (fields ≡ drop 8 (take (length u.body.now - rows_len) u.body.now))) → (t : RowsEventType) → now ≡ Some t → KnowsImages t fields p shapes names start
known_kept u r p shapes names start fields now rows_len is shapes_are begins len_is kept t now_is =
    let k = kept t now_is in
    let fields_are : fields ≡ drop 8 (take (length u.body.now - length r.rows_data) u.body.now) = k.1 ∙ ap (λ (n : ℕ). drop 8 (take (length u.body.now - n) u.body.now)) len_is in
    subst (λ (x : RowsEventType). KnowsImages x fields p shapes names start) k.0
    (subst (λ (l : List ℕ). KnowsImages u.event_type l p shapes names start) (sym fields_are) (known_by u.event_type r u.body.now p shapes names start is shapes_are begins))

-- an event of that type with these fields, and its images
pub record HasKnownImages (t : RowsEventType) (head fields rows_data : List ℕ) (p : TablePlan) (shapes : List ImageShape) : Type 0 where
  pub event : RowsBody
  pub is : rows_event_of t head fields rows_data ≡ Some event
  pub id : event.table_id ≡ little_number 6 head
  pub rows_are : event.rows_data ≡ rows_data
  pub type_is : event.event_type ≡ t
  pub shapes_are : event_shapes event p ≡ Ok shapes

mapped_some : {A B : Type 0} (f : A → B) (o : Option A) (y : B) → option_map f o ≡ Some y → (x : A) × (o ≡ Some x) × (f x ≡ y)
mapped_some f None y h = absurd cc
mapped_some f (Some x) y h = (x, refl, some_is (f x) y h)

of_some : {A B : Type 0} (f : A → B) (o : Option A) (x : A) (y : B) → o ≡ Some x → option_map f o ≡ Some y → f x ≡ y
of_some f o x y is h = some_is (f x) y (ap (option_map f) (sym is) ∙ h)

pub known_event : (t : RowsEventType) (head fields rows_data : List ℕ) (p : TablePlan) (shapes : List ImageShape) (names start : List ℕ) → KnowsImages t fields p shapes names start → length head ≡ 8 → HasKnownImages t head fields rows_data p shapes
known_event t head fields rows_data p shapes names start knows size =
    let o : Option RowsBody = rows_event_of t head fields rows_data in
    let e = mapped_some (λ r. r.table_id) o (little_number 6 head) (knows.table_ids head rows_data size) in
    record {
      event = e.0;
      is = e.1;
      id = e.2;
      rows_are = of_some (λ r. r.rows_data) o e.0 rows_data e.1 (knows.rows head rows_data size);
      type_is = ((rows_event_body (written_ctx t) e.0 (head ++ (fields ++ rows_data))).0 e.1).0;
      shapes_are = of_some (λ r. event_shapes r p) o e.0 (Ok shapes) e.1 (knows.shapes_are head rows_data size);
    }

-- ---- rows of a table whose images are known

some_rows : (x y : List ℕ) → x ≡ y → 0 < length y → (length x == 0) ≡ false
some_rows x y is some = ne_eqb (length x) 0 (λ h. absurd (omega (arith, ap length is, h, some)))

pub found_rows : (s : Tables) (u : UsualRows) (k : PlannedRows) (head rest : List ℕ) (id : ℕ) → u.body.now ≡ head ++ rest → length head ≡ 8 → id ≡ little_number 6 head → ◌≡◌ {A = Option TableMap} (Some (map_of k.table.now.map)) (mapped s id)
    → k.images ≡ images_of u.event_type → k.table.now.images.event_type ≡ Some u.event_type → rest ≡ k.table.now.images.fields.items ++ k.rows_data.now → 0 < length k.rows_data.now → FindsRows s u.event_type u.body.now k
found_rows s u k head rest id joined size id_is found images type fields some =
    let t = k.table.now in
    let m = map_of t.map in
    let knows = t.images_are u.event_type type in
    let e = known_event u.event_type head t.images.fields.items k.rows_data.now (table_plan t.plan) (shapes_of t.images.columns) t.names.items t.images.start.items knows size in
    let whole : u.body.now ≡ head ++ (t.images.fields.items ++ k.rows_data.now) = joined ∙ ap (λ (l : List ℕ). head ++ l) fields in
    let is : rows_event_in (written_ctx u.event_type) u.body.now ≡ Some e.event = ap (rows_event_in (written_ctx u.event_type)) whole ∙ e.is in
    record {
      rows = e.event;
      map = m;
      is = is;
      found = ap (mapped s) (e.id ∙ sym id_is) ∙ sym found;
      has = record {
        some = some_rows e.event.rows_data k.rows_data.now e.rows_are some;
        images_are = images ∙ ap images_of (sym e.type_is);
        map_is = refl;
        rows_are = sym e.rows_are;
        shapes_are = ap (event_shapes e.event) (sym t.plan_is.0) ∙ e.shapes_are;
        start_is = knows.start_is ∙ ap (λ (u : RowsEventType). change_word (change_by (images_of u)) ++ t.names.items) (sym e.type_is) ∙ ap (λ (names : List ℕ). change_word (change_of e.event) ++ names) t.plan_is.1;
      };
    }

pub known_put : (k : PlannedRows) (start before after : List ℕ) (shapes : List ImageShape) (a : Result ⊤ Verdict) → shapes ≡ shapes_of k.table.now.images.columns → start ≡ k.table.now.images.start.items
    → OnOk a (PutsLines shapes start k.rows_data.now before after) → OnOk a (PutsPlannedRows k before after)
known_put k start before after shapes (Ok x) shapes_is start_is h = λ r m has.
    lines_put r (plan_by m) shapes (start_of r m) k.rows_data.now before after (Ok tt) (has.shapes_are ∙ ap (λ (l : List ImageShape). Ok l) (sym shapes_is)) has.rows_are
    (subst (λ (l : List ℕ). PutsLines shapes l k.rows_data.now before after) (start_is ∙ has.start_is) h)
known_put k start before after shapes (Err v) shapes_is start_is h = tt

pub known_unput : (k : PlannedRows) (shapes : List ImageShape) (a : Result ⊤ Verdict) → shapes ≡ shapes_of k.table.now.images.columns → IfErr a (IsRowsError (rows_texts_at shapes k.rows_data.now)) → IfErr a (IsPlannedRowsError k)
known_unput k shapes (Ok x) shapes_is h = tt
known_unput k shapes (Err v) shapes_is h = λ r m has. lines_unput r (plan_by m) shapes k.rows_data.now (Err v) (has.shapes_are ∙ ap (λ (l : List ImageShape). Ok l) (sym shapes_is)) has.rows_are h
