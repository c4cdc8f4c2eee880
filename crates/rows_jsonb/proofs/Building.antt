-- The trees of a container's values, built in order, and what they take from the budget.
use Rattle.std.proofs.Common.{◌≡◌, nat_lt, ◌==◌, ◌||◌, ℤ, if◌then◌else◌, ℕ, zero, suc, ◌+◌, ◌-◌, ◌<◌, List, [], ◌∷◌, ◌++◌, length, Bool, true, false, Option, Some, None, refl, sym, ap, ap₂, inl, inr, ◌∙◌, arith}
use Rattle.std.proofs.lemmas.Result.{err_from_is_err_and}
use Rattle.std.specs.Prelude.{IsErrAnd}
use Rattle.std.specs.declared.result.Result.{Result}
use Rattle.std.specs.declared.result.Result.TheVariants.{Ok, Err}
use Rattle.rows_errors.specs.declared.fault.RowsError.{RowsError}
use Rattle.rows_errors.specs.declared.fault.RowsError.TheVariants.{EndOfBody, RemainingBytes, UnknownNumber, Metadata, Cell, Jsonb, Decimal, EmptyPair, Memory, Read}
use Rattle.wire_buf.specs.Numbers.{little_signed}
use Rattle.rows_values.specs.Decimals.{DecimalParts}
use Rattle.rows_values.specs.Unpacked.{packed_value, normalized_of}
use Rattle.rows_values.specs.TimeFields.{span_fields, date_fields}
use Rattle.rows_values.specs.declared.times.mysql_time.MysqlTime.{MysqlTime}
use Rattle.rows_values.specs.declared.times.mysql_time.MysqlTimestampType.TheVariants.{MYSQL_TIMESTAMP_DATE, MYSQL_TIMESTAMP_DATETIME}
use Rattle.rows_jsonb.specs.JsonbLayout.{ContainerFormat}
use Rattle.rows_jsonb.specs.JsonbValues.{JsonbValue, text, opaque, container, malformed, elem, key, elem_in, object_key, count_in, is_array_in, is_object_in}
use Rattle.rows_errors.specs.Readings.{Reading, ◌>>=◌}
use Rattle.rows_jsonb.specs.JsonTrees as tree
use Rattle.rows_jsonb.specs.JsonTrees.{Tree, array, object, Items, no_items, item, Members, no_members, member, put}
use Rattle.rows_jsonb.specs.DocumentTrees.{Counted, items, member_trees, utf8, leaf, time_in, decimal_in, opaque_tree, entries, bare_tree, tree_of, read_on, items_read, members_read, entries_read, values_read}
use Rattle.rows_jsonb.specs.JsonParsing.{ReturnsError, Fails, TakesBudget, Meets}
use Rattle.rows_jsonb.specs.JsonTreeViews.{view, items_view}
use Rattle.rows_jsonb.specs.declared.dom.JsonDom.{JsonDom}

-- the error that was found may be returned
pub fails_as_found : {B : Type 0} (left read : ℕ) (e : RowsError) (found : Reading (Counted B)) → found ≡ Err e → Fails left read e found
fails_as_found left read EndOfBody found h = h
fails_as_found left read RemainingBytes found h = h
fails_as_found left read UnknownNumber found h = h
fails_as_found left read Metadata found h = h
fails_as_found left read Cell found h = h
fails_as_found left read (Jsonb (Some e)) found h = h
fails_as_found left read (Jsonb None) found h = inl h
fails_as_found left read Decimal found h = h
fails_as_found left read EmptyPair found h = h
fails_as_found left read Memory found h = tt
fails_as_found left read Read found h = h

-- An error, or a budget exceeded, in the first part is one of the whole.
pub fails_on : {A B : Type 0} (left read all whole : ℕ) (e : RowsError) (o : Reading (Counted A)) (f : Counted A → Reading (Counted B)) → (left < read → all < whole)
    → Fails left read e o → Fails all whole e (o >>= f)
fails_on left read all whole EndOfBody o f more h = rw h refl
fails_on left read all whole RemainingBytes o f more h = rw h refl
fails_on left read all whole UnknownNumber o f more h = rw h refl
fails_on left read all whole Metadata o f more h = rw h refl
fails_on left read all whole Cell o f more h = rw h refl
fails_on left read all whole (Jsonb (Some e)) o f more h = rw h refl
fails_on left read all whole (Jsonb None) o f more (inl h) = inl (rw h refl)
fails_on left read all whole (Jsonb None) o f more (inr h) = inr (more h)
fails_on left read all whole Decimal o f more h = rw h refl
fails_on left read all whole EmptyPair o f more h = rw h refl
fails_on left read all whole Memory o f more h = tt
fails_on left read all whole Read o f more h = rw h refl

-- ---- counts

-- what has a tree counts as its tree does
abbrev pub CountsAs : {B : Type 0} → ℕ → Reading (Counted B) → Type 0
CountsAs read (Ok x) = read ≡ x.1
CountsAs read (Err e) = Unit {0}

counts_then : {A B : Type 0} (o : Reading A) (count : A → ℕ) (f : A → Reading (Counted B)) → ((x : A) → CountsAs (count x) (f x)) → CountsAs (read_on o count) (o >>= f)
counts_then (Ok x) count f h = h x
counts_then (Err e) count f h = tt

counts_more : {A B C : Type 0} (o : Reading (Counted A)) (read rest : ℕ) (more : Counted A → Reading (Counted B)) (f : A → B → C) → CountsAs read o → ((x : Counted A) → CountsAs rest (more x))
    → CountsAs (read + read_on o (λ x. rest)) (o >>= (λ x. more x >>= (λ m. Ok (f x.0 m.0, x.1 + m.1))))
counts_more (Err e) read rest more f h k = tt
counts_more {B = B} (Ok x) read rest more f h k = of (more x) (k x)
  where
    of : (o : Reading (Counted B)) → CountsAs rest o → CountsAs (read + rest) (o >>= (λ m. Ok (f x.0 m.0, x.1 + m.1)))
    of (Ok m) e = ap₂ (λ a b. a + b) h e
    of (Err e) _ = tt

counts_one : {A B : Type 0} (f : A → B) (read : ℕ) (o : Reading (Counted A)) → CountsAs read o → CountsAs (read + 1) (o >>= (λ t. Ok (f t.0, t.1 + 1)))
counts_one f read (Ok x) h = ap (λ n. n + 1) h
counts_one f read (Err e) h = tt

pub none_read : (read : ℕ → ℕ) (n : ℕ) → read n ≡ 0 + read (n - 0)
none_read read n = let same : n - 0 ≡ n = omega arith in rw same (omega arith)

-- ---- arrays

-- the trees that were built, before the remaining ones
abbrev pub items_before : List JsonDom → Items → Items
items_before [] rest = rest
items_before (d ∷ ds) rest = item (view d) (items_before ds rest)

abbrev pub items_after : List JsonDom → ℕ → Counted Items → Reading (Counted Items)
items_after ds used x = Ok (items_before ds x.0, used + x.1)

abbrev pub after_items : List JsonDom → ℕ → Reading (Counted Items) → Reading (Counted Items)
after_items ds used found = found >>= items_after ds used

pub items_before-none : (ds : List JsonDom) → items_before ds no_items ≡ items_view ds
items_before-none [] = refl
items_before-none (d ∷ ds) = ap (item (view d)) (items_before-none ds)

items_push : (ds : List JsonDom) (d : JsonDom) (rest : Items) → items_before ds (item (view d) rest) ≡ items_before (ds ++ d ∷ []) rest
items_push [] d rest = refl
items_push (w ∷ ds) d rest = ap (item (view w)) (items_push ds d rest)

pub none_after : (found : Reading (Counted Items)) → found ≡ after_items [] 0 found
none_after (Ok x) = ap (λ n. Ok (x.0, n)) (omega arith)
none_after (Err e) = refl

-- the entries are an item and the rest
abbrev with_item : Reading (Counted Items) → Counted Tree → Reading (Counted Items)
with_item rest t = rest >>= (λ more. Ok (item t.0 more.0, t.1 + more.1))

one_more : (ds : List JsonDom) (d : JsonDom) (used n : ℕ) (rest : Reading (Counted Items)) → after_items ds used (with_item rest (view d, n)) ≡ after_items (ds ++ d ∷ []) (used + n) rest
one_more ds d used n (Ok x) = ap₂ (λ a b. Ok (a, b)) (items_push ds d x.0) (omega arith)
one_more ds d used n (Err e) = refl

pub bind_assoc : {A B C : Type 0} (o : Reading A) (g : A → Reading B) (h : B → Reading C) → (o >>= g) >>= h ≡ o >>= (λ x. g x >>= h)
bind_assoc (Ok x) g h = refl
bind_assoc (Err e) g h = refl

module _ (below : JsonbValue → Reading (Counted Tree)) (count : JsonbValue → ℕ) (at : ℕ → Reading JsonbValue) where
  pub items_turn : (ds : List JsonDom) (d : JsonDom) (used n pos k left : ℕ) (s : JsonbValue) → k ≡ suc left → at pos ≡ Ok s → below s ≡ Ok (view d, n)
      → after_items ds used (items below at pos k) ≡ after_items (ds ++ d ∷ []) (used + n) (items below at (pos + 1) left)
  items_turn ds d used n pos k left s e here tree = rw (e, here, tree) (one_more ds d used n (items below at (pos + 1) left))

  pub items_no_entry : (ds : List JsonDom) (used pos k left : ℕ) (e : RowsError) → k ≡ suc left → at pos ≡ Err e → after_items ds used (items below at pos k) ≡ Err e
  items_no_entry ds used pos k left e some here = rw (some, here) refl

  pub items_fail : (ds : List JsonDom) (used pos k left budget all : ℕ) (s : JsonbValue) (e : RowsError) → k ≡ suc left → at pos ≡ Ok s → used + budget ≡ all
      → Fails budget (count s) e (below s) → Fails all (used + items_read below count at pos k) e (after_items ds used (items below at pos k))
  items_fail ds used pos k left budget all s e some here sum h =
      let rest = items below at (pos + 1) left in
      let later = read_on (below s) (λ t. items_read below count at (pos + 1) left) in
      let more : budget < count s → all < used + (count s + later) = λ over. omega (arith, over, sum) in
      rw (some, here, bind_assoc (below s) (with_item rest) (items_after ds used))
      (fails_on budget (count s) all (used + (count s + later)) e (below s) (λ t. after_items ds used (with_item rest t)) more h)

  -- the values read so far are those of the trees that were built
  pub items_read_turn : (d : Tree) (used n pos k left : ℕ) (s : JsonbValue) → CountsAs (count s) (below s) → k ≡ suc left → at pos ≡ Ok s → below s ≡ Ok (d, n)
      → used + items_read below count at pos k ≡ used + n + items_read below count at (pos + 1) left
  items_read_turn d used n pos k left s counted e here tree =
      let own : count s ≡ n = rw tree at counted in
      rw (e, here, tree, own) (omega arith)

  items_counts : ((s : JsonbValue) → CountsAs (count s) (below s)) → (pos k : ℕ) → CountsAs (items_read below count at pos k) (items below at pos k)
  items_counts counted pos zero = refl
  items_counts counted pos (suc k) =
      counts_then (at pos) _ _ (λ s. counts_more (below s) (count s) (items_read below count at (pos + 1) k) (λ t. items below at (pos + 1) k) item (counted s) (λ t. items_counts counted (pos + 1) k))

  pub items_end : (ds : List JsonDom) (used pos k : ℕ) → k ≡ 0 → after_items ds used (items below at pos k) ≡ Ok (items_view ds, used)
  items_end ds used pos k e = rw e (ap₂ (λ a b. Ok (a, b)) (items_before-none ds) (omega arith))

-- ---- objects

abbrev pub member_after : ℕ → Counted Members → Reading (Counted Members)
member_after used x = Ok (x.0, used + x.1)

abbrev pub after_members : ℕ → Reading (Counted Members) → Reading (Counted Members)
after_members used found = found >>= member_after used

pub none_after_members : (found : Reading (Counted Members)) → found ≡ after_members 0 found
none_after_members (Ok x) = ap (λ n. Ok (x.0, n)) (omega arith)
none_after_members (Err e) = refl

abbrev with_member : Reading (Counted Members) → ℕ → Reading (Counted Members)
with_member rest n = rest >>= (λ more. Ok (more.0, n + more.1))

one_more_member : (used n : ℕ) (rest : Reading (Counted Members)) → after_members used (with_member rest n) ≡ after_members (used + n) rest
one_more_member used n (Ok x) = ap (λ k. Ok (x.0, k)) (omega arith)
one_more_member used n (Err e) = refl

module _ (below : JsonbValue → Reading (Counted Tree)) (count : JsonbValue → ℕ) (name : ℕ → Reading (List ℕ)) (at : ℕ → Reading JsonbValue) where
  pub members_turn : (old : Members) (t : Tree) (bytes word : List ℕ) (used n pos k left : ℕ) (s : JsonbValue) → k ≡ suc left → name pos ≡ Ok bytes → at pos ≡ Ok s → utf8 bytes ≡ Ok word → below s ≡ Ok (t, n)
      → after_members used (member_trees below name at pos k old) ≡ after_members (used + n) (member_trees below name at (pos + 1) left (put word t old))
  members_turn old t bytes word used n pos k left s e named here valid tree = rw (e, named, here, valid, tree) (one_more_member used n (member_trees below name at (pos + 1) left (put word t old)))

  pub members_no_key : (old : Members) (used pos k left : ℕ) (e : RowsError) → k ≡ suc left → name pos ≡ Err e → after_members used (member_trees below name at pos k old) ≡ Err e
  members_no_key old used pos k left e some named = rw (some, named) refl

  pub members_no_entry : (old : Members) (bytes : List ℕ) (used pos k left : ℕ) (e : RowsError) → k ≡ suc left → name pos ≡ Ok bytes → at pos ≡ Err e → after_members used (member_trees below name at pos k old) ≡ Err e
  members_no_entry old bytes used pos k left e some named here = rw (some, named, here) refl

  pub members_no_text : (old : Members) (bytes : List ℕ) (used pos k left : ℕ) (s : JsonbValue) (e : RowsError) → k ≡ suc left → name pos ≡ Ok bytes → at pos ≡ Ok s → utf8 bytes ≡ Err e → after_members used (member_trees below name at pos k old) ≡ Err e
  members_no_text old bytes used pos k left s e some named here valid = rw (some, named, here, valid) refl

  pub members_fail : (old : Members) (bytes word : List ℕ) (used pos k left budget all : ℕ) (s : JsonbValue) (e : RowsError) → k ≡ suc left → name pos ≡ Ok bytes → at pos ≡ Ok s → utf8 bytes ≡ Ok word → used + budget ≡ all
      → Fails budget (count s) e (below s) → Fails all (used + members_read below count name at pos k) e (after_members used (member_trees below name at pos k old))
  members_fail old bytes word used pos k left budget all s e some named here valid sum h =
      let rest = λ (t : Counted Tree). member_trees below name at (pos + 1) left (put word t.0 old) in
      let later = read_on (below s) (λ t. members_read below count name at (pos + 1) left) in
      let more : budget < count s → all < used + (count s + later) = λ over. omega (arith, over, sum) in
      rw (some, named, here, valid, bind_assoc (below s) (λ t. with_member (rest t) t.1) (member_after used))
      (fails_on budget (count s) all (used + (count s + later)) e (below s) (λ t. after_members used (with_member (rest t) t.1)) more h)

  pub members_read_turn : (d : Tree) (bytes word : List ℕ) (used n pos k left : ℕ) (s : JsonbValue) → CountsAs (count s) (below s) → k ≡ suc left → name pos ≡ Ok bytes → at pos ≡ Ok s → utf8 bytes ≡ Ok word → below s ≡ Ok (d, n)
      → used + members_read below count name at pos k ≡ used + n + members_read below count name at (pos + 1) left
  members_read_turn d bytes word used n pos k left s counted e named here valid tree =
      let own : count s ≡ n = rw tree at counted in
      rw (e, named, here, valid, tree, own) (omega arith)

  members_counts : ((s : JsonbValue) → CountsAs (count s) (below s)) → (pos k : ℕ) (old : Members) → CountsAs (members_read below count name at pos k) (member_trees below name at pos k old)
  members_counts counted pos zero old = refl
  members_counts counted pos (suc k) old =
      counts_then (name pos) _ _ (λ bytes. counts_then (at pos) _ _ (λ s. counts_then (utf8 bytes) _ _ (λ n.
      counts_more (below s) (count s) (members_read below count name at (pos + 1) k) (λ t. member_trees below name at (pos + 1) k (put n t.0 old)) (λ a b. b) (counted s) (λ t. members_counts counted (pos + 1) k (put n t.0 old)))))

  pub members_end : (old : Members) (used pos k : ℕ) → k ≡ 0 → after_members used (member_trees below name at pos k old) ≡ Ok (old, used)
  members_end old used pos k e = rw e (ap (λ n. Ok (old, n)) (omega arith))

-- ---- one value

pub takes_one : {A B : Type 0} (found : Reading (Counted A)) (whole : Reading (Counted B)) (f : A → B) (x : A) (y : B) (old left new : ℕ) → 1 + left ≡ old → whole ≡ found >>= (λ t. Ok (f t.0, t.1 + 1)) → y ≡ f x
    → TakesBudget left new x found → TakesBudget old new y whole
takes_one found whole f x y old left new some is same t = record {
  count = t.count + 1;
  found_is = is ∙ rw t.found_is (ap (λ z. Ok (z, t.count + 1)) (sym same));
  taken = omega (arith, t.taken);
}

pub fails_one : {A B : Type 0} (found : Reading (Counted A)) (whole : Reading (Counted B)) (f : A → B) (old left read all : ℕ) (e : RowsError) → 1 + left ≡ old → whole ≡ found >>= (λ t. Ok (f t.0, t.1 + 1)) → all ≡ read + 1
    → Fails left read e found → Fails old all e whole
fails_one found whole f old left read all e some is sum h =
    let more : left < read → old < read + 1 = λ over. omega (arith, over, some) in
    rw (is, sum) (fails_on left read old (read + 1) e found (λ t. Ok (f t.0, t.1 + 1)) more h)

-- an exit by `?` returns the same error
pub exits : {A B : Type 0} (view : A → B) (old new read : ℕ) (r : Result A RowsError) (e : RowsError) (found : Reading (Counted B)) {P : Type 0} → P × IsErrAnd r (λ f. f ≡ e) → Fails old read e found → Meets view old new r read found
exits view old new read r e found h fails = let f = err_from_is_err_and r h.1 in rw (f.1, f.2) fails

pub exits_memory : {A B : Type 0} (view : A → B) (old new read : ℕ) (r : Result A RowsError) (found : Reading (Counted B)) {P : Type 0} → P × IsErrAnd r (λ f. f ≡ Memory) → Meets view old new r read found
exits_memory view old new read r found h = let f = err_from_is_err_and r h.1 in rw (f.1, f.2) tt

pub fails_failed : {B : Type 0} (left read : ℕ) (e : RowsError) (found : Reading (Counted B)) → ReturnsError e found → Fails left read e found
fails_failed left read EndOfBody found h = h
fails_failed left read RemainingBytes found h = h
fails_failed left read UnknownNumber found h = h
fails_failed left read Metadata found h = h
fails_failed left read Cell found h = h
fails_failed left read (Jsonb (Some e)) found h = h
fails_failed left read (Jsonb None) found h = inl h
fails_failed left read Decimal found h = h
fails_failed left read EmptyPair found h = h
fails_failed left read Memory found h = tt
fails_failed left read Read found h = h

-- ---- the cases of a tree

array_in : (below : JsonbValue → Reading (Counted Tree)) (b : Bool) (f : ContainerFormat) (n : ℕ) (bytes : List ℕ) → b ≡ true → entries below b f n bytes ≡ items below (elem f n bytes) 0 n >>= (λ t. Ok (array t.0, t.1 + 1))
array_in below true f n bytes e = refl
array_in below false f n bytes e = absurd cc

object_in : (below : JsonbValue → Reading (Counted Tree)) (b : Bool) (f : ContainerFormat) (n : ℕ) (bytes : List ℕ) → (if b then false else true) ≡ true → entries below b f n bytes ≡ member_trees below (key f n bytes) (elem f n bytes) 0 n no_members >>= (λ t. Ok (object t.0, t.1 + 1))
object_in below true f n bytes e = absurd cc
object_in below false f n bytes e = refl

neither : (b : Bool) → b ≡ false → (if b then false else true) ≡ false → ⊥
neither true e h = cc
neither false e h = cc

pub array_tree : (depth d : ℕ) (s : JsonbValue) → depth ≡ suc d → is_array_in s ≡ true → tree_of depth s ≡ items (tree_of d) (elem_in s) 0 (count_in s) >>= (λ t. Ok (array t.0, t.1 + 1))
unfolding tree_of
array_tree depth d (container f n bytes) more e = rw more (array_in (tree_of d) f.is_array f n bytes e)
array_tree depth d _ more e = absurd cc

pub object_tree : (depth d : ℕ) (s : JsonbValue) → depth ≡ suc d → is_object_in s ≡ true → tree_of depth s ≡ member_trees (tree_of d) (object_key s) (elem_in s) 0 (count_in s) no_members >>= (λ t. Ok (object t.0, t.1 + 1))
unfolding tree_of
object_tree depth d (container f n bytes) more e = rw more (object_in (tree_of d) f.is_array f n bytes e)
object_tree depth d _ more e = absurd cc

pub other_tree : (depth d : ℕ) (s : JsonbValue) → depth ≡ suc d → is_array_in s ≡ false → is_object_in s ≡ false → tree_of depth s ≡ bare_tree s
unfolding tree_of
other_tree depth d (container f n bytes) more e h = absurd (neither f.is_array e h)
other_tree depth d _ more e h = rw more refl

pub flat_tree : (depth : ℕ) (s : JsonbValue) → depth ≡ 0 → tree_of depth s ≡ bare_tree s
unfolding tree_of
flat_tree depth s e = rw e refl

-- each value counts

counts_text : (o : Reading (List ℕ)) → CountsAs 1 (o >>= (λ t. leaf (tree.string t)))
counts_text (Ok x) = refl
counts_text (Err e) = tt

counts_either : (b : Bool) (x y : Reading (Counted Tree)) → CountsAs 1 x → CountsAs 1 y → CountsAs 1 (if b then x else y)
counts_either true x y h k = h
counts_either false x y h k = k

counts_time : (fields : ℤ → MysqlTime) (s : List ℕ) → CountsAs 1 (time_in fields s)
counts_time fields s = counts_either (nat_lt (length s) 8) (Err malformed) (leaf (tree.time (fields (little_signed 8 s)))) tt (refl)

counts_decimal : (o : Option DecimalParts) → CountsAs 1 (decimal_in o)
counts_decimal None = tt
counts_decimal (Some d) = refl

counts_opaque : (t : ℕ) (s : List ℕ) → CountsAs 1 (opaque_tree t s)
counts_opaque t s =
    let day = date_fields MYSQL_TIMESTAMP_DATE in
    let moment = date_fields MYSQL_TIMESTAMP_DATETIME in
    let plain : Reading (Counted Tree) = leaf (tree.opaque t s) in
    let decimals : Reading (Counted Tree) = if t == 246 then decimal_in (normalized_of false (packed_value s)) else plain in
    let moments : Reading (Counted Tree) = if t == 12 || t == 7 then time_in moment s else decimals in
    let spans : Reading (Counted Tree) = if t == 11 then time_in span_fields s else moments in
    counts_either (t == 10) (time_in day s) spans (counts_time day s) (counts_either (t == 11) (time_in span_fields s) moments (counts_time span_fields s) (counts_either (t == 12 || t == 7) (time_in moment s) decimals (counts_time moment s) (counts_either (t == 246) (decimal_in (normalized_of false (packed_value s))) plain (counts_decimal (normalized_of false (packed_value s))) (refl))))

counts_bare : (s : JsonbValue) → CountsAs 1 (bare_tree s)
counts_bare (text s) = counts_text (utf8 s)
counts_bare (opaque t s) = counts_opaque t s
counts_bare (container f n bytes) = tt
counts_bare _ = refl

counts_entries : (below : JsonbValue → Reading (Counted Tree)) (count : JsonbValue → ℕ) → ((s : JsonbValue) → CountsAs (count s) (below s)) → (b : Bool) (f : ContainerFormat) (n : ℕ) (bytes : List ℕ) → CountsAs (entries_read below count b f n bytes + 1) (entries below b f n bytes)
counts_entries below count counted true f n bytes = counts_one array (items_read below count (elem f n bytes) 0 n) (items below (elem f n bytes) 0 n) (items_counts below count (elem f n bytes) counted 0 n)
counts_entries below count counted false f n bytes =
    counts_one object (members_read below count (key f n bytes) (elem f n bytes) 0 n) (member_trees below (key f n bytes) (elem f n bytes) 0 n no_members) (members_counts below count (key f n bytes) (elem f n bytes) counted 0 n no_members)

pub counts : (d : ℕ) (s : JsonbValue) → CountsAs (values_read d s) (tree_of d s)
unfolding tree_of values_read
counts zero s = counts_bare s
counts (suc d) (container f n bytes) = counts_entries (tree_of d) (values_read d) (counts d) f.is_array f n bytes
counts (suc d) (text s) = counts_text (utf8 s)
counts (suc d) (opaque t s) = counts_opaque t s
counts (suc d) _ = refl

reads_some : (d : ℕ) (s : JsonbValue) → 0 < values_read d s
unfolding values_read
reads_some zero s = omega arith
reads_some (suc d) (container f n bytes) = omega arith
reads_some (suc d) _ = omega arith

pub none_left : (left d : ℕ) (s : JsonbValue) → left ≡ 0 → Fails left (values_read d s) (Jsonb None) (tree_of d s)
none_left left d s e = rw e (inr (reads_some d s))

array_read_in : (below : JsonbValue → Reading (Counted Tree)) (count : JsonbValue → ℕ) (b : Bool) (f : ContainerFormat) (n : ℕ) (bytes : List ℕ) → b ≡ true → entries_read below count b f n bytes ≡ items_read below count (elem f n bytes) 0 n
array_read_in below count true f n bytes e = refl
array_read_in below count false f n bytes e = absurd cc

object_read_in : (below : JsonbValue → Reading (Counted Tree)) (count : JsonbValue → ℕ) (b : Bool) (f : ContainerFormat) (n : ℕ) (bytes : List ℕ) → (if b then false else true) ≡ true → entries_read below count b f n bytes ≡ members_read below count (key f n bytes) (elem f n bytes) 0 n
object_read_in below count true f n bytes e = absurd cc
object_read_in below count false f n bytes e = refl

pub array_read : (depth d : ℕ) (s : JsonbValue) → depth ≡ suc d → is_array_in s ≡ true → values_read depth s ≡ items_read (tree_of d) (values_read d) (elem_in s) 0 (count_in s) + 1
unfolding values_read
array_read depth d (container f n bytes) more e = rw more (ap (λ k. k + 1) (array_read_in (tree_of d) (values_read d) f.is_array f n bytes e))
array_read depth d _ more e = absurd cc

pub object_read : (depth d : ℕ) (s : JsonbValue) → depth ≡ suc d → is_object_in s ≡ true → values_read depth s ≡ members_read (tree_of d) (values_read d) (object_key s) (elem_in s) 0 (count_in s) + 1
unfolding values_read
object_read depth d (container f n bytes) more e = rw more (ap (λ k. k + 1) (object_read_in (tree_of d) (values_read d) f.is_array f n bytes e))
object_read depth d _ more e = absurd cc

-- an error in a part is an error of the value that contains it
pub fails_from : {C B : Type 0} (left read : ℕ) (e : RowsError) (o : Reading C) (found : Reading (Counted B)) → ReturnsError e o → (o ≡ Err e → found ≡ Err e) → Fails left read e found
fails_from left read EndOfBody o found h k = k h
fails_from left read RemainingBytes o found h k = k h
fails_from left read UnknownNumber o found h k = k h
fails_from left read Metadata o found h k = k h
fails_from left read Cell o found h k = k h
fails_from left read (Jsonb (Some e)) o found h k = k h
fails_from left read (Jsonb None) o found h k = inl (k h)
fails_from left read Decimal o found h k = k h
fails_from left read EmptyPair o found h k = k h
fails_from left read Memory o found h k = tt
fails_from left read Read o found h k = k h
