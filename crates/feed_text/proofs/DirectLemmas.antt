-- Values of JSON documents, as the bytes have them.
use Rattle.std.proofs.Common.{◌≡◌, ◌≤◌, ◌<◌, ◌+◌, ◌^◌, inl, inr, ℕ, ℤ, zero, suc, false, true, List, [], ◌∷◌, ◌++◌, length, take, drop, Result, Ok, Err, OnOk, OnErr, refl, sym, ap, ap₂, subst, ◌∙◌, arith}
use Rattle.std.specs.Prelude.{slice_index}
use Rattle.std.specs.Str.{is_utf8}
use Rattle.std.proofs.lemmas.Bool.Decides.{leb_tells}
use Rattle.std.proofs.Math.Seq.{take-length}
use Rattle.byteorder.specs.Endian.{little_number}
use Rattle.wire_buf.specs.Numbers.{little_signed}
use Rattle.wire_buf.specs.Eating.{Eats}
use Rattle.wire_fields.specs.Sevens.{sevens_split}
use Rattle.rows_errors.specs.Readings.{Reading, ◌>>=◌}
use Rattle.rows_jsonb.specs.JsonTrees as tree
use Rattle.rows_jsonb.specs.JsonTrees.{Tree}
use Rattle.rows_jsonb.specs.JsonbTypes.{literal_of}
use Rattle.rows_jsonb.specs.JsonbValues as seen
use Rattle.rows_jsonb.specs.JsonbValues.{JsonbValue, container, is_array_in, is_object_in, sized, literal, counted_at, document}
use Rattle.rows_jsonb.specs.DocumentTrees.{utf8, tree_of, bare_tree, container_len, within_budget, document_tree}
use Rattle.rows_jsonb.proofs.Building.{flat_tree, other_tree}
use Rattle.feed_text.specs.DocumentForms.{Form, IsScalarIn, IsDocumentIn}
use Rattle.feed_text.specs.Containers.{typed}
use Rattle.feed_text.specs.DirectText.{WritesTyped, WritesTypedScalar, WritesDocument}
use Rattle.feed_text.proofs.QuoteLemmas.{kept_more}

-- a value that is no container has the tree of a scalar
scalar_tree : (depth : ℕ) (s : JsonbValue) → is_array_in s ≡ false → is_object_in s ≡ false → tree_of depth s ≡ bare_tree s
scalar_tree zero s a o = flat_tree zero s refl
scalar_tree (suc d) s a o = other_tree (suc d) d s refl a o

-- the text is unchanged
kept_same : (old new : List ℕ) → new ≡ old → take (length old) new ≡ old
kept_same old new is = ap (take (length old)) is ∙ take-length old

pub kept_after : (old new more : List ℕ) → new ≡ old ++ more → take (length old) new ≡ old
kept_after old new more is = kept_more old old new more (take-length old) is

within_is : (size count : ℕ) (t : Tree) → count ≤ 1 + size → within_budget size (t, count) ≡ Ok t
within_is size count t le = elim (leb_tells count (1 + size)) [ inl u ↦ (let e = u.0 in rw e refl) | inr u ↦ absurd (omega (arith, u.1, le)) ]

-- the text of the document's tree was appended
pub document_written : (f : Form) (bytes first rest : List ℕ) (s : JsonbValue) (budget left : ℕ) (old new : List ℕ) → 0 < length bytes → first ≡ take 1 bytes → rest ≡ drop 1 bytes → typed (slice_index first 0) rest ≡ Ok s → budget ≡ 1 + container_len s
    → WritesTyped f 100 (slice_index first 0) rest budget left old new → WritesDocument f (document_tree bytes) old new
document_written f [] first rest s budget left old new some head tail is size w = absurd (omega (arith, some))
document_written f (b ∷ bytes) first rest s budget left old new some head tail is size w =
    let same : s ≡ w.value = inside (typed (slice_index first 0) rest) s w.value is w.is in
    let t = w.tree in
    let found = t.is in
    let budget_is : budget ≡ 1 + container_len w.value = size ∙ ap (λ v. 1 + container_len v) same in
    let few = within_is (container_len w.value) t.count t.tree (omega (arith, t.taken, budget_is)) in
    let whole : document (b ∷ bytes) ≡ Ok w.value = ap₂ (λ (l r : List ℕ). typed (slice_index l 0) r) (sym head) (sym tail) ∙ w.is in
    record { tree = t.tree; is = rw (whole, found) few; text = t.text }
  where
    inside : (found : Reading JsonbValue) (x y : JsonbValue) → found ≡ Ok x → found ≡ Ok y → x ≡ y
    inside found x y a b = let e = sym a ∙ b in cc

-- ---- scalars

-- the text of a scalar was appended
pub typed_scalar : (f : Form) (type_byte : ℕ) (bytes old new text : List ℕ) (value : JsonbValue) (part : tree.Scalar) → typed type_byte bytes ≡ Ok value → bare_tree value ≡ Ok (tree.scalar part, 1) → IsScalarIn f part text → new ≡ old ++ text
    → WritesTypedScalar f type_byte bytes old new
typed_scalar f type_byte bytes old new text value part is found same written = record {
  value = value;
  is = is;
  scalar = record { part = part; is = found; text = record { text = text; such = same; appended = written } };
}

sized_whole : {A : Type 0} (n : ℕ) (bytes : List ℕ) (v w : A) → n ≤ length bytes → v ≡ w → sized n bytes v ≡ Ok w
sized_whole n bytes v w room is = elim (leb_tells (suc (length bytes)) n) [ inl t ↦ absurd (omega (arith, t.1, room)) | inr t ↦ rw t.0 (ap (λ x. Ok x) is) ]

pub i16_typed : (bytes rest : List ℕ) (z : ℤ) → Eats (little_signed 2) 2 z bytes rest → typed 5 bytes ≡ Ok (seen.i16 z)
i16_typed bytes rest z h = sized_whole 2 bytes (seen.i16 (little_signed 2 bytes)) (seen.i16 z) h.room (ap seen.i16 (sym h.value_is))

pub u16_typed : (bytes rest : List ℕ) (n : ℕ) → Eats (little_number 2) 2 n bytes rest → typed 6 bytes ≡ Ok (seen.u16 n)
u16_typed bytes rest n h = sized_whole 2 bytes (seen.u16 (little_number 2 bytes)) (seen.u16 n) h.room (ap seen.u16 (sym h.value_is))

pub i32_typed : (bytes rest : List ℕ) (z : ℤ) → Eats (little_signed 4) 4 z bytes rest → typed 7 bytes ≡ Ok (seen.i32 z)
i32_typed bytes rest z h = sized_whole 4 bytes (seen.i32 (little_signed 4 bytes)) (seen.i32 z) h.room (ap seen.i32 (sym h.value_is))

pub u32_typed : (bytes rest : List ℕ) (n : ℕ) → Eats (little_number 4) 4 n bytes rest → typed 8 bytes ≡ Ok (seen.u32 n)
u32_typed bytes rest n h = sized_whole 4 bytes (seen.u32 (little_number 4 bytes)) (seen.u32 n) h.room (ap seen.u32 (sym h.value_is))

pub i64_typed : (bytes rest : List ℕ) (z : ℤ) → Eats (little_signed 8) 8 z bytes rest → typed 9 bytes ≡ Ok (seen.i64 z)
i64_typed bytes rest z h = sized_whole 8 bytes (seen.i64 (little_signed 8 bytes)) (seen.i64 z) h.room (ap seen.i64 (sym h.value_is))

pub u64_typed : (bytes rest : List ℕ) (n : ℕ) → Eats (little_number 8) 8 n bytes rest → typed 10 bytes ≡ Ok (seen.u64 n)
u64_typed bytes rest n h = sized_whole 8 bytes (seen.u64 (little_number 8 bytes)) (seen.u64 n) h.room (ap seen.u64 (sym h.value_is))

pub f64_typed : (bytes rest : List ℕ) (n : ℕ) → Eats (little_number 8) 8 n bytes rest → typed 11 bytes ≡ Ok (seen.double n)
f64_typed bytes rest n h = sized_whole 8 bytes (seen.double (little_number 8 bytes)) (seen.double n) h.room (ap seen.double (sym h.value_is))

-- null, true and false
pub literal_typed : (bytes : List ℕ) (n : ℕ) (value : JsonbValue) → 0 < length bytes → slice_index bytes 0 ≡ n → literal (literal_of n) ≡ Ok value → typed 4 bytes ≡ Ok value
literal_typed bytes n value some first is = ap (λ found. found >>= (λ k. literal (literal_of k))) (sized_whole 1 bytes (slice_index bytes 0) n (omega (arith, some)) first) ∙ is

utf8_is : (s : List ℕ) → is_utf8 s ≡ true → utf8 s ≡ Ok s
utf8_is s h = rw h refl

-- the text of a string was appended, or nothing
pub string_written : {E : Type 0} (f : Form) (bytes string old new : List ℕ) (r : Result (Unit {0}) E) → counted_at bytes ≡ Ok string → OnOk r (is_utf8 string ≡ true) → OnOk r (new ≡ old ++ f.string string) → OnOk r (WritesTypedScalar f 12 bytes old new)
unfolding IsScalarIn
string_written f bytes string old new (Ok x) is valid written =
    let whole = utf8_is string valid in
    let found : typed 12 bytes ≡ Ok (seen.text string) = ap (λ (f : Reading (List ℕ)). f >>= (λ s. Ok (seen.text s))) is in
    typed_scalar f 12 bytes old new (f.string string) (seen.text string) (tree.string string) found (rw whole refl) refl written
string_written f bytes string old new (Err e) is valid written = tt

-- a string after its length in one byte
pub short_counted : (bytes first rest : List ℕ) (len : ℕ) → 0 < length bytes → slice_index bytes 0 < 128 → first ≡ take 1 bytes → rest ≡ drop 1 bytes → len ≡ slice_index first 0 → len ≤ length rest → counted_at bytes ≡ Ok (take len rest)
unfolding sevens_split
short_counted [] first rest len some below head tail is room = absurd (omega (arith, some))
short_counted (b ∷ bytes) first rest len some below head tail is room =
    let same : len ≡ b = is ∙ ap (λ (l : List ℕ). slice_index l 0) head in
    let fits : b ≤ length bytes = subst (λ (n : ℕ). n ≤ length bytes) same (subst (λ (l : List ℕ). len ≤ length l) tail room) in
    counted_in b bytes below fits ∙ ap₂ (λ (n : ℕ) (l : List ℕ). Ok (take n l)) (sym same) (sym tail)
  where
    counted_in : (b : ℕ) (bytes : List ℕ) → b < 128 → b ≤ length bytes → counted_at (b ∷ bytes) ≡ Ok (take b bytes)
    counted_in b bytes below fits = elim (leb_tells (suc b) 128) [
      | inl t ↦ (elim (leb_tells (suc b) (2 ^ 32)) [
        | inl u ↦ (elim (leb_tells b (length bytes)) [ inl w ↦ rw (t.0, u.0, w.0) refl | inr w ↦ absurd (omega (arith, w.1, fits)) ])
        | inr u ↦ absurd (omega (arith, u.1, below))
      ])
      | inr t ↦ absurd (omega (arith, t.1, below))
    ]

-- what has a bare tree is no container
bare_as_tree : (depth : ℕ) (s : JsonbValue) (part : tree.Scalar) → bare_tree s ≡ Ok (tree.scalar part, 1) → tree_of depth s ≡ bare_tree s
bare_as_tree depth (container f n bytes) part h = absurd cc
bare_as_tree depth s part h = scalar_tree depth s refl refl

-- a scalar counts one
scalar_as_tree : (f : Form) (depth type_byte : ℕ) (bytes : List ℕ) (budget left : ℕ) (old new : List ℕ) → left + 1 ≡ budget → WritesTypedScalar f type_byte bytes old new → WritesTyped f depth type_byte bytes budget left old new
unfolding IsDocumentIn
scalar_as_tree f depth type_byte bytes budget left old new one w =
    let s = w.scalar in
    let x = s.text in record {
      value = w.value;
      is = w.is;
      tree = record {
        tree = tree.scalar s.part;
        count = 1;
        is = bare_as_tree depth w.value s.part s.is ∙ s.is;
        taken = omega (arith, one);
        text = record { text = x.text; such = x.such; appended = x.appended };
      };
    }

pub scalar_counted : {E : Type 0} (f : Form) (r : Result (Unit {0}) E) (depth type_byte : ℕ) (bytes : List ℕ) (budget left : ℕ) (old new : List ℕ) → OnOk r (left + 1 ≡ budget) → OnOk r (WritesTypedScalar f type_byte bytes old new) → OnOk r (WritesTyped f depth type_byte bytes budget left old new)
scalar_counted f (Ok x) depth type_byte bytes budget left old new one w = scalar_as_tree f depth type_byte bytes budget left old new one w
scalar_counted f (Err e) depth type_byte bytes budget left old new one w = tt

pub scalar_kept : {E : Type 0} (f : Form) (r : Result (Unit {0}) E) (type_byte : ℕ) (bytes old new : List ℕ) → OnOk r (WritesTypedScalar f type_byte bytes old new) → OnErr r (new ≡ old) → take (length old) new ≡ old
scalar_kept f (Ok x) type_byte bytes old new w same = let s = w.scalar in let x = s.text in kept_after old new x.text x.appended
scalar_kept f (Err e) type_byte bytes old new w same = kept_same old new same
