-- A document of bytes has a tree whose numbers have few digits, whose texts are UTF-8, and whose keys ascend.
use Rattle.std.proofs.Common.{◌≡◌, ℕ, zero, suc, ◌+◌, ◌<◌, ◌^◌, ◌*◌, ◌-◌, Bool, true, false, List, [], ◌∷◌, Option, Some, None, refl, arith, take, drop, length, eqb}
use Rattle.std.specs.Prelude.{ℤ, IsUtf8, slice_index, if◌then◌else◌, nat_lt, nat_le, ◌&&◌, ◌||◌, ◌==◌}
use Rattle.std.specs.Str.{is_utf8}
use Rattle.std.specs.declared.result.Result.TheVariants.{Ok, Err}
use Rattle.std.proofs.lemmas.Str.{IsUtf8-from_is_utf8}
use lib.Signed.{mag}
use Rattle.byteorder.specs.Endian.{little_number}
use Rattle.wire_buf.specs.Encoding.{AreBytes}
use Rattle.wire_buf.specs.Numbers.{little_signed}
use Rattle.wire_fields.specs.Sevens.{sevens_split}
use Rattle.rows_errors.specs.Readings.{Reading, ◌>>=◌}
use Rattle.rows_errors.specs.declared.fault.RowsError.TheVariants.{Jsonb}
use Rattle.rows_errors.specs.declared.fault.JsonbError.TheVariants.{InvalidValueOffsetPointer, SizeOverflow}
use Rattle.rows_values.specs.Decimals.{DecimalParts, normalized, packed_size, without_zero_groups, zero_value}
use Rattle.rows_values.specs.Digits.{AreDigits}
use Rattle.rows_values.specs.Unpacked.{packed_value, normalized_of, unpacked}
use Rattle.rows_values.proofs.UnpackLemmas.{kept_are}
use Rattle.rows_values.proofs.UnpackedLemmas.{take_bytes, drop_bytes, unpacked-sound}
use Rattle.rows_values.specs.TimeFields.{span_fields, date_fields}
use Rattle.rows_values.specs.declared.times.mysql_time.MysqlTime.{MysqlTime}
use Rattle.rows_values.specs.declared.times.mysql_time.MysqlTimestampType.TheVariants.{MYSQL_TIMESTAMP_DATE, MYSQL_TIMESTAMP_DATETIME}
use Rattle.rows_jsonb.specs.JsonbLayout.{ContainerFormat, offset_size, value_entry_size, value_entry_offset, header_size}
use Rattle.rows_jsonb.specs.JsonbTypes.{jsonb_type_of, is_inlined, literal_of}
use Rattle.rows_jsonb.specs.JsonbValues.{JsonbValue, null, boolean, i16, u16, i32, u32, i64, u64, double, text, opaque, container, malformed, sized, literal, literal_at, counted_string, counted_at, opaque_at, is_column_type, container_in, container_at, json_value_at, of_type, document, pointed, entry_of, elem, key}
use Rattle.rows_jsonb.specs.DocumentTrees.{Counted, utf8, leaf, time_in, decimal_in, opaque_tree, items, member_trees, entries, bare_tree, tree_of, within_budget, container_len, tree_in, document_tree}
use Rattle.rows_jsonb.specs.JsonTrees as tree
use Rattle.rows_jsonb.specs.JsonTrees.{Tree, scalar, array, object, Items, no_items, item, Members, no_members, put}
use Rattle.rows_jsonb.specs.declared.types.LiteralType.{LiteralType}
use Rattle.rows_jsonb.specs.declared.types.LiteralType.TheVariants.{JSONB_NULL_LITERAL, JSONB_TRUE_LITERAL, JSONB_FALSE_LITERAL}
use Rattle.rows_jsonb.specs.declared.types.JsonbType.{JsonbType}
use Rattle.rows_jsonb.specs.declared.types.JsonbType.TheVariants.{JSONB_TYPE_SMALL_OBJECT, JSONB_TYPE_LARGE_OBJECT, JSONB_TYPE_SMALL_ARRAY, JSONB_TYPE_LARGE_ARRAY, JSONB_TYPE_LITERAL, JSONB_TYPE_INT16, JSONB_TYPE_UINT16, JSONB_TYPE_INT32, JSONB_TYPE_UINT32, JSONB_TYPE_INT64, JSONB_TYPE_UINT64, JSONB_TYPE_DOUBLE, JSONB_TYPE_STRING, JSONB_TYPE_OPAQUE}
use Rattle.changes_laws.proofs.ReadingGives.{Gives, given, fails, either, next, little_below, signed_below, sevens_after}
use Rattle.changes_laws.proofs.SoundTrees.{IsSoundScalar, IsSoundTree, AreSoundItems, AreSoundMembers, AreAscending, keys_of, put_ascending, put_sound}

-- ---- values
abbrev pub IsSoundValue : JsonbValue → Type 0
IsSoundValue (i16 z) = mag z < 10 ^ 63
IsSoundValue (u16 n) = n < 10 ^ 64
IsSoundValue (i32 z) = mag z < 10 ^ 63
IsSoundValue (u32 n) = n < 10 ^ 64
IsSoundValue (i64 z) = mag z < 10 ^ 63
IsSoundValue (u64 n) = n < 10 ^ 64
IsSoundValue (opaque number s) = (number < 10 ^ 64) × AreBytes s
IsSoundValue (container f n bytes) = AreBytes bytes
IsSoundValue _ = Unit {0}

abbrev Sound : Reading JsonbValue → Type 0
Sound = Gives IsSoundValue

sized_sound : (n : ℕ) (bytes : List ℕ) (v : JsonbValue) → IsSoundValue v → Sound (sized n bytes v)
sized_sound n bytes v h = either IsSoundValue (nat_lt (length bytes) n) (Err malformed) (Ok v) (fails IsSoundValue malformed) (given IsSoundValue v h)

literal_sound : (o : Option LiteralType) → Sound (literal o)
literal_sound None = fails IsSoundValue malformed
literal_sound (Some JSONB_NULL_LITERAL) = given IsSoundValue null tt
literal_sound (Some JSONB_TRUE_LITERAL) = given IsSoundValue (boolean true) tt
literal_sound (Some JSONB_FALSE_LITERAL) = given IsSoundValue (boolean false) tt

literal_at_sound : (bytes : List ℕ) → Sound (literal_at bytes)
literal_at_sound bytes = next (λ n. Unit {0}) IsSoundValue (sized 1 bytes (slice_index bytes 0)) (λ n. literal (literal_of n)) (record { each = λ x e. tt }) (λ n h. literal_sound (literal_of n))

counted_bytes : (bytes : List ℕ) → AreBytes bytes → Gives AreBytes (counted_at bytes)
counted_bytes bytes h = go (sevens_split 5 bytes) refl
  where
    go : (o : Option (ℕ × List ℕ)) → sevens_split 5 bytes ≡ o → Gives AreBytes (counted_string o)
    go None e = fails AreBytes malformed
    go (Some p) e = either AreBytes (nat_lt p.0 (2 ^ 32) && nat_le p.0 (length p.1)) (Ok (take p.0 p.1)) (Err malformed) (given AreBytes (take p.0 p.1) (take_bytes p.0 p.1 (sevens_after 5 bytes p h e))) (fails AreBytes malformed)

opaque_sound : (bytes : List ℕ) → AreBytes bytes → Sound (opaque_at bytes)
opaque_sound bytes h =
    let n = slice_index bytes 0 in
    let content : Reading JsonbValue = counted_at (drop 1 bytes) >>= (λ s. Ok (opaque n s)) in
    let below : n < 10 ^ 64 = omega (arith, h 0) in
    let inside : Sound content = next AreBytes IsSoundValue (counted_at (drop 1 bytes)) (λ s. Ok (opaque n s)) (counted_bytes (drop 1 bytes) (drop_bytes 1 bytes h)) (λ s b. given IsSoundValue (opaque n s) (below, b)) in
    let known : Reading JsonbValue = if is_column_type n then content else Err malformed in
    either IsSoundValue (nat_lt (length bytes) 1) (Err malformed) known (fails IsSoundValue malformed) (either IsSoundValue (is_column_type n) content (Err malformed) inside (fails IsSoundValue malformed))

container_in_sound : (f : ContainerFormat) (n size : ℕ) (bytes : List ℕ) → AreBytes bytes → Sound (container_in f n size bytes)
container_in_sound f n size bytes h =
    either IsSoundValue (nat_lt (length bytes) size || nat_lt size (header_size f n)) (Err (Jsonb (Some SizeOverflow))) (Ok (container f n (take size bytes))) (fails IsSoundValue (Jsonb (Some SizeOverflow))) (given IsSoundValue (container f n (take size bytes)) (take_bytes size bytes h))

container_sound : (f : ContainerFormat) (bytes : List ℕ) → AreBytes bytes → Sound (container_at f bytes)
container_sound f bytes h =
    let n = little_number (offset_size f.is_large) bytes in
    let size = little_number (offset_size f.is_large) (drop (offset_size f.is_large) bytes) in
    either IsSoundValue (nat_lt (length bytes) (2 * offset_size f.is_large)) (Err malformed) (container_in f n size bytes) (fails IsSoundValue malformed) (container_in_sound f n size bytes h)

value_sound : (t : JsonbType) (bytes : List ℕ) → AreBytes bytes → Sound (json_value_at t bytes)
value_sound JSONB_TYPE_SMALL_OBJECT bytes h = container_sound (record { is_large = false; is_array = false }) bytes h
value_sound JSONB_TYPE_LARGE_OBJECT bytes h = container_sound (record { is_large = true; is_array = false }) bytes h
value_sound JSONB_TYPE_SMALL_ARRAY bytes h = container_sound (record { is_large = false; is_array = true }) bytes h
value_sound JSONB_TYPE_LARGE_ARRAY bytes h = container_sound (record { is_large = true; is_array = true }) bytes h
value_sound JSONB_TYPE_LITERAL bytes h = literal_at_sound bytes
value_sound JSONB_TYPE_INT16 bytes h = sized_sound 2 bytes (i16 (little_signed 2 bytes)) (omega (arith, signed_below 2 bytes h))
value_sound JSONB_TYPE_UINT16 bytes h = sized_sound 2 bytes (u16 (little_number 2 bytes)) (omega (arith, little_below 2 bytes h))
value_sound JSONB_TYPE_INT32 bytes h = sized_sound 4 bytes (i32 (little_signed 4 bytes)) (omega (arith, signed_below 4 bytes h))
value_sound JSONB_TYPE_UINT32 bytes h = sized_sound 4 bytes (u32 (little_number 4 bytes)) (omega (arith, little_below 4 bytes h))
value_sound JSONB_TYPE_INT64 bytes h = sized_sound 8 bytes (i64 (little_signed 8 bytes)) (omega (arith, signed_below 8 bytes h))
value_sound JSONB_TYPE_UINT64 bytes h = sized_sound 8 bytes (u64 (little_number 8 bytes)) (omega (arith, little_below 8 bytes h))
value_sound JSONB_TYPE_DOUBLE bytes h = sized_sound 8 bytes (double (little_number 8 bytes)) tt
value_sound JSONB_TYPE_STRING bytes h = next AreBytes IsSoundValue (counted_at bytes) (λ s. Ok (text s)) (counted_bytes bytes h) (λ s b. given IsSoundValue (text s) tt)
value_sound JSONB_TYPE_OPAQUE bytes h = opaque_sound bytes h

typed_sound : (t : Option JsonbType) (bytes : List ℕ) → AreBytes bytes → Sound (of_type t bytes)
typed_sound None bytes h = fails IsSoundValue malformed
typed_sound (Some t) bytes h = value_sound t bytes h

pub document_sound : (bytes : List ℕ) → AreBytes bytes → Sound (document bytes)
document_sound [] h = given IsSoundValue null tt
document_sound (b ∷ bytes) h = typed_sound (jsonb_type_of b) bytes (λ i. h (suc i))

pointed_sound : (t : JsonbType) (offset least : ℕ) (bytes : List ℕ) → AreBytes bytes → Sound (pointed t offset least bytes)
pointed_sound t offset least bytes h =
    either IsSoundValue (nat_lt (length bytes) offset || nat_lt offset least) (Err (Jsonb (Some InvalidValueOffsetPointer))) (json_value_at t (drop offset bytes)) (fails IsSoundValue (Jsonb (Some InvalidValueOffsetPointer))) (value_sound t (drop offset bytes) (drop_bytes offset bytes h))

entry_sound : (large : Bool) (o : Option JsonbType) (at : ℕ) (bytes : List ℕ) → AreBytes bytes → Sound (entry_of large o at bytes)
entry_sound large None at bytes h = fails IsSoundValue malformed
entry_sound large (Some t) at bytes h =
    let own = take (offset_size large) (drop (at + 1) bytes) in
    let offset = little_number (offset_size large) (drop (at + 1) bytes) in
    either IsSoundValue (is_inlined large t) (json_value_at t own) (pointed t offset (at + value_entry_size large) bytes) (value_sound t own (take_bytes (offset_size large) (drop (at + 1) bytes) (drop_bytes (at + 1) bytes h))) (pointed_sound t offset (at + value_entry_size large) bytes h)

elem_sound : (f : ContainerFormat) (n : ℕ) (bytes : List ℕ) → AreBytes bytes → (pos : ℕ) → Sound (elem f n bytes pos)
elem_sound f n bytes h pos = entry_sound f.is_large (jsonb_type_of (slice_index bytes (value_entry_offset f n pos))) (value_entry_offset f n pos) bytes h

-- ---- trees
abbrev IsSoundCounted : Counted Tree → Type 0
IsSoundCounted t = IsSoundTree t.0

utf8_sound : (s : List ℕ) → Gives IsUtf8 (utf8 s)
utf8_sound s = go (is_utf8 s) refl
  where
    go : (b : Bool) → is_utf8 s ≡ b → Gives IsUtf8 (if b then Ok s else Err malformed)
    go true e = given IsUtf8 s (IsUtf8-from_is_utf8 s e)
    go false e = fails IsUtf8 malformed

leaf_sound : (s : tree.Scalar) → IsSoundScalar s → Gives IsSoundCounted (leaf s)
unfolding IsSoundTree
leaf_sound s h = given IsSoundCounted (scalar s, 1) h

time_sound : (fields : ℤ → MysqlTime) (s : List ℕ) → Gives IsSoundCounted (time_in fields s)
time_sound fields s = either IsSoundCounted (nat_lt (length s) 8) (Err malformed) (leaf (tree.time (fields (little_signed 8 s)))) (fails IsSoundCounted malformed) (leaf_sound (tree.time (fields (little_signed 8 s))) tt)

abbrev pub HasDigits : Option DecimalParts → Type 0
HasDigits None = Unit {0}
HasDigits (Some v) = AreDigits v.before × AreDigits v.after

pub unpacked_digits : (precision scale : ℕ) (bytes : List ℕ) → AreBytes bytes → HasDigits (unpacked precision scale bytes)
unpacked_digits precision scale bytes h = go (unpacked precision scale bytes) refl
  where
    go : (o : Option DecimalParts) → unpacked precision scale bytes ≡ o → HasDigits o
    go None e = tt
    go (Some v) e = let p = (unpacked-sound precision scale v bytes h e).1 in (p.before_are, p.after_are)

packed_digits : (s : List ℕ) → AreBytes s → HasDigits (packed_value s)
unfolding packed_value
packed_digits s h = go (nat_lt (length s) 2)
  where
    size : ℕ
    size = packed_size (slice_index s 0 - slice_index s 1) (slice_index s 1)

    go : (b : Bool) → HasDigits (if b then None else unpacked (slice_index s 0) (slice_index s 1) (take size (drop 2 s)))
    go true = tt
    go false = unpacked_digits (slice_index s 0) (slice_index s 1) (take size (drop 2 s)) (take_bytes size (drop 2 s) (drop_bytes 2 s h))

no_digits : AreDigits []
no_digits k = omega arith

zero_digits : AreDigits (0 ∷ [])
zero_digits zero = omega arith
zero_digits (suc k) = omega arith

pub normalized_digits : (v : DecimalParts) → AreDigits v.before → AreDigits v.after → HasDigits (Some (normalized false v))
normalized_digits v h g = go (eqb (length (without_zero_groups v.before) + length v.after) 0)
  where
    go : (b : Bool) → HasDigits (Some (if b then zero_value else record { negative = v.negative; before = without_zero_groups v.before; after = v.after }))
    go true = (zero_digits, no_digits)
    go false = (kept_are false v.before h, g)

decimal_sound : (o : Option DecimalParts) → HasDigits o → Gives IsSoundCounted (decimal_in (normalized_of false o))
decimal_sound None h = fails IsSoundCounted malformed
decimal_sound (Some v) h = leaf_sound (tree.decimal (normalized false v)) (normalized_digits v h.0 h.1)

opaque_tree_sound : (t : ℕ) (s : List ℕ) → t < 10 ^ 64 → AreBytes s → Gives IsSoundCounted (opaque_tree t s)
opaque_tree_sound t s below h =
    let date = time_in (date_fields MYSQL_TIMESTAMP_DATE) s in
    let span = time_in span_fields s in
    let datetime = time_in (date_fields MYSQL_TIMESTAMP_DATETIME) s in
    let decimal = decimal_in (normalized_of false (packed_value s)) in
    let other = leaf (tree.opaque t s) in
    let d = either IsSoundCounted (t == 246) decimal other (decimal_sound (packed_value s) (packed_digits s h)) (leaf_sound (tree.opaque t s) (below, h)) in
    let c = either IsSoundCounted ((t == 12) || (t == 7)) datetime _ (time_sound (date_fields MYSQL_TIMESTAMP_DATETIME) s) d in
    let b = either IsSoundCounted (t == 11) span _ (time_sound span_fields s) c in
    either IsSoundCounted (t == 10) date _ (time_sound (date_fields MYSQL_TIMESTAMP_DATE) s) b

bare_sound : (s : JsonbValue) → IsSoundValue s → Gives IsSoundCounted (bare_tree s)
bare_sound (container f n bytes) h = fails IsSoundCounted malformed
bare_sound (opaque t s) h = opaque_tree_sound t s h.0 h.1
bare_sound (text s) h = next IsUtf8 IsSoundCounted (utf8 s) (λ t. leaf (tree.string t)) (utf8_sound s) (λ t u. leaf_sound (tree.string t) u)
bare_sound null h = leaf_sound tree.null tt
bare_sound (boolean b) h = leaf_sound (tree.boolean b) tt
bare_sound (i16 z) h = leaf_sound (tree.int z) h
bare_sound (u16 n) h = leaf_sound (tree.uint n) h
bare_sound (i32 z) h = leaf_sound (tree.int z) h
bare_sound (u32 n) h = leaf_sound (tree.uint n) h
bare_sound (i64 z) h = leaf_sound (tree.int z) h
bare_sound (u64 n) h = leaf_sound (tree.uint n) h
bare_sound (double n) h = leaf_sound (tree.double n) tt

abbrev AreSoundCounted : Counted Items → Type 0
AreSoundCounted t = AreSoundItems t.0

abbrev IsSoundObject : Members → Type 0
IsSoundObject ms = AreSoundMembers ms × AreAscending (keys_of ms)

abbrev IsCountedObject : Counted Members → Type 0
IsCountedObject t = IsSoundObject t.0

module _ (below : JsonbValue → Reading (Counted Tree)) (sound : (s : JsonbValue) → IsSoundValue s → Gives IsSoundCounted (below s)) (at : ℕ → Reading JsonbValue) (at_sound : (pos : ℕ) → Sound (at pos)) where
  items_sound : (pos k : ℕ) → Gives AreSoundCounted (items below at pos k)
  unfolding AreSoundItems
  items_sound pos zero = given AreSoundCounted (no_items, 0) tt
  items_sound pos (suc k) =
      next IsSoundValue AreSoundCounted (at pos) _ (at_sound pos) (λ s v. next IsSoundCounted AreSoundCounted (below s) _ (sound s v) (λ t u.
      next AreSoundCounted AreSoundCounted (items below at (pos + 1) k) _ (items_sound (pos + 1) k) (λ more m. given AreSoundCounted (item t.0 more.0, t.1 + more.1) (u, m))))

  members_sound : (name : ℕ → Reading (List ℕ)) (pos k : ℕ) (old : Members) → IsSoundObject old → Gives IsCountedObject (member_trees below name at pos k old)
  members_sound name pos zero old h = given IsCountedObject (old, 0) h
  members_sound name pos (suc k) old h =
      next (λ n. Unit {0}) IsCountedObject (name pos) _ (record { each = λ n e. tt }) (λ bytes w. next IsSoundValue IsCountedObject (at pos) _ (at_sound pos) (λ s v. next IsUtf8 IsCountedObject (utf8 bytes) _ (utf8_sound bytes) (λ n u.
      next IsSoundCounted IsCountedObject (below s) _ (sound s v) (λ t x. next IsCountedObject IsCountedObject (member_trees below name at (pos + 1) k (put n t.0 old)) _
      (members_sound name (pos + 1) k (put n t.0 old) (put_sound n t.0 old u x h.0, put_ascending n t.0 old h.1)) (λ more m. given IsCountedObject (more.0, t.1 + more.1) m)))))

no_members_sound : IsSoundObject no_members
unfolding AreSoundMembers
no_members_sound = (tt, tt)

entries_sound : (below : JsonbValue → Reading (Counted Tree)) → ((s : JsonbValue) → IsSoundValue s → Gives IsSoundCounted (below s)) → (b : Bool) (f : ContainerFormat) (n : ℕ) (bytes : List ℕ) → AreBytes bytes → Gives IsSoundCounted (entries below b f n bytes)
unfolding IsSoundTree
entries_sound below sound true f n bytes h = next AreSoundCounted IsSoundCounted (items below (elem f n bytes) 0 n) _ (items_sound below sound (elem f n bytes) (elem_sound f n bytes h) 0 n) (λ t s. given IsSoundCounted (array t.0, t.1 + 1) s)
entries_sound below sound false f n bytes h = next IsCountedObject IsSoundCounted (member_trees below (key f n bytes) (elem f n bytes) 0 n no_members) _ (members_sound below sound (elem f n bytes) (elem_sound f n bytes h) (key f n bytes) 0 n no_members no_members_sound) (λ t s. given IsSoundCounted (object t.0, t.1 + 1) s)

tree_sound : (d : ℕ) (s : JsonbValue) → IsSoundValue s → Gives IsSoundCounted (tree_of d s)
unfolding tree_of
tree_sound zero s h = bare_sound s h
tree_sound (suc d) (container f n bytes) h = entries_sound (tree_of d) (tree_sound d) f.is_array f n bytes h
tree_sound (suc d) (opaque t s) h = bare_sound (opaque t s) h
tree_sound (suc d) (text s) h = bare_sound (text s) h
tree_sound (suc d) null h = bare_sound null h
tree_sound (suc d) (boolean b) h = bare_sound (boolean b) h
tree_sound (suc d) (i16 z) h = bare_sound (i16 z) h
tree_sound (suc d) (u16 n) h = bare_sound (u16 n) h
tree_sound (suc d) (i32 z) h = bare_sound (i32 z) h
tree_sound (suc d) (u32 n) h = bare_sound (u32 n) h
tree_sound (suc d) (i64 z) h = bare_sound (i64 z) h
tree_sound (suc d) (u64 n) h = bare_sound (u64 n) h
tree_sound (suc d) (double n) h = bare_sound (double n) h

pub value_tree_sound : (s : JsonbValue) → IsSoundValue s → Gives IsSoundTree (tree_in s)
value_tree_sound s h =
    next IsSoundCounted IsSoundTree (tree_of 100 s) (within_budget (container_len s)) (tree_sound 100 s h)
    (λ t u. either IsSoundTree (nat_le t.1 (1 + container_len s)) (Ok t.0) (Err malformed) (given IsSoundTree t.0 u) (fails IsSoundTree malformed))

pub document_tree_sound : (bytes : List ℕ) → AreBytes bytes → Gives IsSoundTree (document_tree bytes)
document_tree_sound bytes h = next IsSoundValue IsSoundTree (document bytes) tree_in (document_sound bytes h) value_tree_sound
