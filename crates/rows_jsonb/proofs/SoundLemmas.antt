-- Every error of the definition is `Jsonb`.
use Rattle.std.proofs.Common.{◌≡◌, ◌⊎◌, ◌<◌, ℤ, nat_lt, if◌then◌else◌, ℕ, zero, suc, ◌+◌, List, [], ◌∷◌, drop, slice_index, length, Bool, true, false, Option, Some, None, refl, subst, arith, inl, inr}
use Rattle.std.proofs.lemmas.Bool.Decides.{leb_tells}
use Rattle.std.specs.declared.result.Result.{Result}
use Rattle.std.specs.declared.result.Result.TheVariants.{Ok, Err}
use Rattle.rows_errors.specs.declared.fault.RowsError.{RowsError}
use Rattle.rows_errors.specs.declared.fault.RowsError.TheVariants.{EndOfBody, RemainingBytes, UnknownNumber, Metadata, Cell, Jsonb, Decimal, EmptyPair, Memory, Read}
use Rattle.rows_values.specs.Decimals.{DecimalParts}
use Rattle.rows_values.specs.declared.times.mysql_time.MysqlTime.{MysqlTime}
use Rattle.wire_fields.specs.Sevens.{sevens_split}
use Rattle.rows_jsonb.specs.JsonbLayout.{ContainerFormat, value_entry_offset}
use Rattle.rows_jsonb.specs.JsonbTypes.{jsonb_type_of, literal_of}
use Rattle.rows_errors.specs.declared.fault.JsonbError.{JsonbError}
use Rattle.rows_jsonb.specs.JsonbValues as seen
use Rattle.rows_jsonb.specs.JsonbValues.{JsonbValue, text, container, malformed, is_column_type, sized, literal, literal_at, counted_string, counted_at, opaque_at, container_in, container_at, json_value_at, of_type, document, pointed, entry_of, entry_at, elem, key_in, key}
use Rattle.rows_errors.specs.Readings.{Reading, ◌>>=◌}
use Rattle.rows_jsonb.specs.JsonTrees.{Tree, Members, no_members, put}
use Rattle.rows_jsonb.specs.DocumentTrees.{Counted, items, member_trees, utf8, time_in, decimal_in, opaque_tree, entries, bare_tree, tree_of, within_budget}
use Rattle.rows_jsonb.specs.JsonDiffs.{IsJsonbFault}
use Rattle.rows_jsonb.specs.JsonParsing.{Fails, IsNone, Parses}
use Rattle.rows_jsonb.specs.JsonTreeViews.{view}
use Rattle.rows_jsonb.proofs.Building.{CountsAs}
use Rattle.rows_jsonb.specs.declared.types.LiteralType.{LiteralType}
use Rattle.rows_jsonb.specs.declared.types.LiteralType.TheVariants.{JSONB_NULL_LITERAL, JSONB_TRUE_LITERAL, JSONB_FALSE_LITERAL}
use Rattle.rows_jsonb.specs.declared.types.JsonbType.{JsonbType}
use Rattle.rows_jsonb.specs.declared.types.JsonbType.TheVariants.{JSONB_TYPE_SMALL_OBJECT, JSONB_TYPE_LARGE_OBJECT, JSONB_TYPE_SMALL_ARRAY, JSONB_TYPE_LARGE_ARRAY, JSONB_TYPE_LITERAL, JSONB_TYPE_INT16, JSONB_TYPE_UINT16, JSONB_TYPE_INT32, JSONB_TYPE_UINT32, JSONB_TYPE_INT64, JSONB_TYPE_UINT64, JSONB_TYPE_DOUBLE, JSONB_TYPE_STRING, JSONB_TYPE_OPAQUE}

abbrev OnlyJsonb : {A : Type 0} → Reading A → Type 0
OnlyJsonb (Ok x) = Unit {0}
OnlyJsonb (Err e) = IsJsonbFault e

pub record IsSound {A : Type 0} (o : Result A RowsError) : Type 0 where
  only : OnlyJsonb o

ok : {A : Type 0} (x : A) → IsSound {A = A} (Ok x)
ok x = record { only = tt }

fault : {A : Type 0} (e : Option JsonbError) → IsSound {A = A} (Err (Jsonb e))
fault e = record { only = tt }

either : {A : Type 0} (b : Bool) (x y : Reading A) → IsSound x → IsSound y → IsSound (if b then x else y)
either true x y h k = h
either false x y h k = k

next : {A B : Type 0} (o : Reading A) (f : A → Reading B) → IsSound o → ((x : A) → IsSound (f x)) → IsSound (o >>= f)
next (Ok x) f h k = k x
next (Err e) f h k = record { only = h.only }

sized_sound : {A : Type 0} (n : ℕ) (bytes : List ℕ) (v : A) → IsSound (sized n bytes v)
sized_sound n bytes v = search (either, ok, fault)

literal_sound : (t : Option LiteralType) → IsSound (literal t)
literal_sound None = fault None
literal_sound (Some JSONB_NULL_LITERAL) = ok _
literal_sound (Some JSONB_TRUE_LITERAL) = ok _
literal_sound (Some JSONB_FALSE_LITERAL) = ok _

counted_sound : (o : Option (ℕ × List ℕ)) → IsSound (counted_string o)
counted_sound None = fault None
counted_sound (Some p) = search (either, ok, fault)

opaque_sound : (bytes : List ℕ) → IsSound (opaque_at bytes)
opaque_sound bytes =
    let n = slice_index bytes 0 in
    let content : Reading JsonbValue = counted_at (drop 1 bytes) >>= (λ s. Ok (seen.opaque n s)) in
    let inside : IsSound {A = JsonbValue} content = next (counted_at (drop 1 bytes)) (λ s. Ok (seen.opaque n s)) (counted_sound (sevens_split 5 (drop 1 bytes))) (λ s. ok (seen.opaque n s)) in
    let known : Reading JsonbValue = if is_column_type n then content else Err malformed in
    either (nat_lt (length bytes) 1) (Err malformed) known (fault None) (either (is_column_type n) content (Err malformed) inside (fault None))

container_sound : (f : ContainerFormat) (bytes : List ℕ) → IsSound (container_at f bytes)
container_sound f bytes = search (either, ok, fault)

value_sound : (t : JsonbType) (bytes : List ℕ) → IsSound (json_value_at t bytes)
value_sound JSONB_TYPE_SMALL_OBJECT bytes = container_sound (record { is_large = false; is_array = false }) bytes
value_sound JSONB_TYPE_LARGE_OBJECT bytes = container_sound (record { is_large = true; is_array = false }) bytes
value_sound JSONB_TYPE_SMALL_ARRAY bytes = container_sound (record { is_large = false; is_array = true }) bytes
value_sound JSONB_TYPE_LARGE_ARRAY bytes = container_sound (record { is_large = true; is_array = true }) bytes
value_sound JSONB_TYPE_LITERAL bytes = next (sized 1 bytes (slice_index bytes 0)) (λ n. literal (literal_of n)) (sized_sound 1 bytes (slice_index bytes 0)) (λ n. literal_sound (literal_of n))
value_sound JSONB_TYPE_INT16 bytes = sized_sound 2 bytes _
value_sound JSONB_TYPE_UINT16 bytes = sized_sound 2 bytes _
value_sound JSONB_TYPE_INT32 bytes = sized_sound 4 bytes _
value_sound JSONB_TYPE_UINT32 bytes = sized_sound 4 bytes _
value_sound JSONB_TYPE_INT64 bytes = sized_sound 8 bytes _
value_sound JSONB_TYPE_UINT64 bytes = sized_sound 8 bytes _
value_sound JSONB_TYPE_DOUBLE bytes = sized_sound 8 bytes _
value_sound JSONB_TYPE_STRING bytes = next (counted_at bytes) _ (counted_sound (sevens_split 5 bytes)) (λ s. ok _)
value_sound JSONB_TYPE_OPAQUE bytes = opaque_sound bytes

typed_sound : (t : Option JsonbType) (bytes : List ℕ) → IsSound (of_type t bytes)
typed_sound None bytes = fault None
typed_sound (Some t) bytes = value_sound t bytes

document_sound : (bytes : List ℕ) → IsSound (document bytes)
document_sound [] = ok seen.null
document_sound (b ∷ bytes) = typed_sound (jsonb_type_of b) bytes

-- an error of a document is `Jsonb`
pub document_fault : (bytes : List ℕ) (e : RowsError) → document bytes ≡ Err e → IsJsonbFault e
document_fault bytes e fails = subst (λ (o : Reading JsonbValue). OnlyJsonb o) fails (document_sound bytes).only

entry_sound : (large : Bool) (t : Option JsonbType) (at : ℕ) (bytes : List ℕ) → IsSound (entry_of large t at bytes)
entry_sound large None at bytes = fault None
entry_sound large (Some t) at bytes = search (either, value_sound, fault)

elem_sound : (f : ContainerFormat) (n : ℕ) (bytes : List ℕ) (pos : ℕ) → IsSound (elem f n bytes pos)
elem_sound f n bytes pos = entry_sound f.is_large (jsonb_type_of (slice_index bytes (value_entry_offset f n pos))) (value_entry_offset f n pos) bytes

key_sound : (f : ContainerFormat) (n : ℕ) (bytes : List ℕ) (pos : ℕ) → IsSound (key f n bytes pos)
key_sound f n bytes pos = search (either, ok, fault)

utf8_sound : (s : List ℕ) → IsSound (utf8 s)
utf8_sound s = search (either, ok, fault)

module _ (below : JsonbValue → Reading (Counted Tree)) (sound : (s : JsonbValue) → IsSound (below s)) (at : ℕ → Reading JsonbValue) (at_sound : (pos : ℕ) → IsSound (at pos)) where
  items_sound : (pos k : ℕ) → IsSound (items below at pos k)
  items_sound pos zero = ok _
  items_sound pos (suc k) = next (at pos) _ (at_sound pos) (λ s. next (below s) _ (sound s) (λ t. next (items below at (pos + 1) k) _ (items_sound (pos + 1) k) (λ m. ok _)))

  members_sound : (name : ℕ → Reading (List ℕ)) → ((pos : ℕ) → IsSound (name pos)) → (pos k : ℕ) (old : Members) → IsSound (member_trees below name at pos k old)
  members_sound name named pos zero old = ok _
  members_sound name named pos (suc k) old =
      next (name pos) _ (named pos) (λ bytes. next (at pos) _ (at_sound pos) (λ s. next (utf8 bytes) _ (utf8_sound bytes) (λ n. next (below s) _ (sound s) (λ t.
      next (member_trees below name at (pos + 1) k (put n t.0 old)) _ (members_sound name named (pos + 1) k (put n t.0 old)) (λ m. ok _)))))

entries_sound : (below : JsonbValue → Reading (Counted Tree)) → ((s : JsonbValue) → IsSound (below s)) → (b : Bool) (f : ContainerFormat) (n : ℕ) (bytes : List ℕ) → IsSound (entries below b f n bytes)
entries_sound below sound true f n bytes = next (items below (elem f n bytes) 0 n) _ (items_sound below sound (elem f n bytes) (elem_sound f n bytes) 0 n) (λ t. ok _)
entries_sound below sound false f n bytes = next (member_trees below (key f n bytes) (elem f n bytes) 0 n no_members) _ (members_sound below sound (elem f n bytes) (elem_sound f n bytes) (key f n bytes) (key_sound f n bytes) 0 n no_members) (λ t. ok _)

time_sound : (fields : ℤ → MysqlTime) (s : List ℕ) → IsSound (time_in fields s)
time_sound fields s = search (either, ok, fault)

decimal_sound : (o : Option DecimalParts) → IsSound (decimal_in o)
decimal_sound None = fault None
decimal_sound (Some d) = ok _

opaque_tree_sound : (t : ℕ) (s : List ℕ) → IsSound (opaque_tree t s)
opaque_tree_sound t s = search (either, ok, time_sound, decimal_sound)

bare_sound : (s : JsonbValue) → IsSound (bare_tree s)
bare_sound (container f n bytes) = fault None
bare_sound (seen.opaque t s) = opaque_tree_sound t s
bare_sound (text s) = next (utf8 s) _ (utf8_sound s) (λ t. ok _)
bare_sound _ = ok _

pub tree_sound : (d : ℕ) (s : JsonbValue) → IsSound (tree_of d s)
unfolding tree_of
tree_sound zero s = bare_sound s
tree_sound (suc d) (container f n bytes) = entries_sound (tree_of d) (tree_sound d) f.is_array f n bytes
tree_sound (suc d) (seen.opaque t s) = opaque_tree_sound t s
tree_sound (suc d) (text s) = next (utf8 s) _ (utf8_sound s) (λ t. ok _)
tree_sound (suc d) _ = ok _

other : (e : RowsError) (found : Reading (Counted Tree)) → IsSound found → found ≡ Err e → IsJsonbFault e
other e found sound h = (subst (λ o. IsSound {A = Counted Tree} o) h sound).only

none_within : (size read : ℕ) (found : Reading (Counted Tree)) → CountsAs read found → (found ≡ Err malformed) ⊎ (1 + size < read) → IsNone (found >>= within_budget size)
none_within size read (Ok x) counted (inl h) = absurd cc
none_within size read (Ok x) counted (inr h) = elim (leb_tells x.1 (1 + size)) [
  | inl t ↦ absurd (omega (arith, t.1, h, counted))
  | inr t ↦ rw t.0 tt
]
none_within size read (Err e) counted h = tt

pub parse_failed : (size read : ℕ) (e : RowsError) (found : Reading (Counted Tree)) → IsSound found → CountsAs read found → Fails (1 + size) read e found → Parses view (Err e) (found >>= within_budget size)
parse_failed size read EndOfBody found sound counted h = other EndOfBody found sound h
parse_failed size read RemainingBytes found sound counted h = other RemainingBytes found sound h
parse_failed size read UnknownNumber found sound counted h = other UnknownNumber found sound h
parse_failed size read Metadata found sound counted h = other Metadata found sound h
parse_failed size read Cell found sound counted h = other Cell found sound h
parse_failed size read (Jsonb (Some e)) found sound counted h = rw h refl
parse_failed size read (Jsonb None) found sound counted h = none_within size read found counted h
parse_failed size read Decimal found sound counted h = other Decimal found sound h
parse_failed size read EmptyPair found sound counted h = other EmptyPair found sound h
parse_failed size read Memory found sound counted h = tt
parse_failed size read Read found sound counted h = other Read found sound h

-- an error without a name comes from a fault without a name, or from too many values
pub nameless_fault : (size read : ℕ) (e : RowsError) (found : Reading (Counted Tree)) → Fails (1 + size) read e found → e ≡ Jsonb None → (found >>= within_budget size ≡ Err malformed) ⊎ (1 + size < read)
nameless_fault size read e found h is = of (rw is at h)
  where
    of : (found ≡ Err malformed) ⊎ (1 + size < read) → (found >>= within_budget size ≡ Err malformed) ⊎ (1 + size < read)
    of (inl same) = inl (rw same refl)
    of (inr over) = inr over
