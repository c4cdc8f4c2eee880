-- The value at an offset in MySQL's binary JSON (MySQL's source: `json_binary.h`): a scalar, or a container whose elements aren't read. If there is none, the error.
use Rattle.std.specs.Prelude.{ℕ, ℤ, ◌+◌, ◌-◌, ◌*◌, ◌^◌, ◌==◌, ◌&&◌, ◌||◌, if◌then◌else◌, nat_lt, nat_le, Bool, true, false, List, [], ◌∷◌, length, take, drop, slice_index, Option, Some, None}
use Rattle.std.specs.declared.result.Result.TheVariants.{Ok, Err}
use Rattle.byteorder.specs.Endian.{little_number}
use Rattle.wire_buf.specs.Numbers.{little_signed}
use Rattle.wire_fields.specs.Sevens.{sevens_split}
use Rattle.wire_constants.specs.declared.column_type.ColumnType.{ColumnType}
use Rattle.wire_constants.specs.ColumnTypes.{column_type_number}
use Rattle.wire_constants.specs.AllColumnTypes.{column_types}
use Rattle.rows_errors.specs.Readings.{Reading, ◌>>=◌}
use Rattle.rows_errors.specs.declared.fault.RowsError.{RowsError}
use Rattle.rows_errors.specs.declared.fault.RowsError.TheVariants.{Jsonb}
use Rattle.rows_errors.specs.declared.fault.JsonbError.TheVariants.{InvalidKeyOffsetPointer, InvalidValueOffsetPointer, SizeOverflow}
use Rattle.rows_jsonb.specs.JsonbTypes.{jsonb_type_of, is_inlined, literal_of}
use Rattle.rows_jsonb.specs.JsonbLayout.{ContainerFormat, offset_size, value_entry_size, key_entry_offset, value_entry_offset, header_size}
use Rattle.rows_jsonb.specs.declared.types.LiteralType.{LiteralType}
use Rattle.rows_jsonb.specs.declared.types.LiteralType.TheVariants.{JSONB_NULL_LITERAL, JSONB_TRUE_LITERAL, JSONB_FALSE_LITERAL}
use Rattle.rows_jsonb.specs.declared.types.JsonbType.{JsonbType}
use Rattle.rows_jsonb.specs.declared.types.JsonbType.TheVariants.{JSONB_TYPE_SMALL_OBJECT, JSONB_TYPE_LARGE_OBJECT, JSONB_TYPE_SMALL_ARRAY, JSONB_TYPE_LARGE_ARRAY, JSONB_TYPE_LITERAL, JSONB_TYPE_INT16, JSONB_TYPE_UINT16, JSONB_TYPE_INT32, JSONB_TYPE_UINT32, JSONB_TYPE_INT64, JSONB_TYPE_UINT64, JSONB_TYPE_DOUBLE, JSONB_TYPE_STRING, JSONB_TYPE_OPAQUE}

-- the value at an offset; a container has its format, its count, and all its bytes from the count on
pub data JsonbValue : Type 0 where
  null : JsonbValue
  boolean : Bool → JsonbValue
  i16 : ℤ → JsonbValue
  u16 : ℕ → JsonbValue
  i32 : ℤ → JsonbValue
  u32 : ℕ → JsonbValue
  i64 : ℤ → JsonbValue
  u64 : ℕ → JsonbValue
  double : ℕ → JsonbValue
  text : List ℕ → JsonbValue
  opaque : ℕ → List ℕ → JsonbValue
  container : ContainerFormat → ℕ → List ℕ → JsonbValue

-- the error of a document that can't be read, unless an offset or a size is wrong
abbrev pub malformed : RowsError
malformed = Jsonb None

-- a value of n bytes, if there are so many
abbrev pub sized : {A : Type 0} → ℕ → List ℕ → A → Reading A
sized n bytes v = if nat_lt (length bytes) n then Err malformed else Ok v

-- the value of a literal
abbrev pub literal : Option LiteralType → Reading JsonbValue
literal None = Err malformed
literal (Some JSONB_NULL_LITERAL) = Ok null
literal (Some JSONB_TRUE_LITERAL) = Ok (boolean true)
literal (Some JSONB_FALSE_LITERAL) = Ok (boolean false)

-- the literal in one byte
abbrev pub literal_at : List ℕ → Reading JsonbValue
literal_at bytes = sized 1 bytes (slice_index bytes 0) >>= (λ n. literal (literal_of n))

-- the string after its length; an error if there is no length, if it is 2^32 or more, or if it exceeds the remaining bytes
abbrev pub counted_string : Option (ℕ × List ℕ) → Reading (List ℕ)
counted_string None = Err malformed
counted_string (Some p) = if nat_lt p.0 (2 ^ 32) && nat_le p.0 (length p.1) then Ok (take p.0 p.1) else Err malformed

-- the bytes after their length, which is a VarLen
abbrev pub counted_at : List ℕ → Reading (List ℕ)
counted_at bytes = counted_string (sevens_split 5 bytes)

-- whether one of the column types has the number
abbrev pub has_number : ℕ → List ColumnType → Bool
has_number n [] = false
has_number n (t ∷ ts) = (column_type_number t == n) || has_number n ts

-- whether a column type has this number
unfoldable pub is_column_type : ℕ → Bool
is_column_type n = has_number n column_types

-- an opaque value: the number of its column type, then its bytes after their length
abbrev pub opaque_at : List ℕ → Reading JsonbValue
opaque_at bytes = if nat_lt (length bytes) 1 then Err malformed
    else if is_column_type (slice_index bytes 0) then counted_at (drop 1 bytes) >>= (λ s. Ok (opaque (slice_index bytes 0) s))
    else Err malformed

-- the container of n elements with its first `size` bytes; an error if fewer remain or the entries need more
abbrev pub container_in : ContainerFormat → ℕ → ℕ → List ℕ → Reading JsonbValue
container_in f n size bytes =
    if nat_lt (length bytes) size || nat_lt size (header_size f n) then Err (Jsonb (Some SizeOverflow))
    else Ok (container f n (take size bytes))

-- the container that bytes begin with, by its count and its size
abbrev pub container_at : ContainerFormat → List ℕ → Reading JsonbValue
container_at f bytes = if nat_lt (length bytes) (2 * offset_size f.is_large) then Err malformed
    else container_in f (little_number (offset_size f.is_large) bytes) (little_number (offset_size f.is_large) (drop (offset_size f.is_large) bytes)) bytes

-- the size of a number in bytes, by its type; 0 for types that aren't numbers
abbrev pub number_size : JsonbType → ℕ
number_size JSONB_TYPE_INT16 = 2
number_size JSONB_TYPE_UINT16 = 2
number_size JSONB_TYPE_INT32 = 4
number_size JSONB_TYPE_UINT32 = 4
number_size JSONB_TYPE_INT64 = 8
number_size JSONB_TYPE_UINT64 = 8
number_size JSONB_TYPE_DOUBLE = 8
number_size t = 0

-- a number of the type, in little-endian order
abbrev pub json_number_at : JsonbType → List ℕ → Reading JsonbValue
json_number_at JSONB_TYPE_INT16 bytes = sized 2 bytes (i16 (little_signed 2 bytes))
json_number_at JSONB_TYPE_UINT16 bytes = sized 2 bytes (u16 (little_number 2 bytes))
json_number_at JSONB_TYPE_INT32 bytes = sized 4 bytes (i32 (little_signed 4 bytes))
json_number_at JSONB_TYPE_UINT32 bytes = sized 4 bytes (u32 (little_number 4 bytes))
json_number_at JSONB_TYPE_INT64 bytes = sized 8 bytes (i64 (little_signed 8 bytes))
json_number_at JSONB_TYPE_UINT64 bytes = sized 8 bytes (u64 (little_number 8 bytes))
json_number_at JSONB_TYPE_DOUBLE bytes = sized 8 bytes (double (little_number 8 bytes))
json_number_at t bytes = Err malformed

-- a value of the type, which the bytes begin with
abbrev pub json_value_at : JsonbType → List ℕ → Reading JsonbValue
json_value_at JSONB_TYPE_SMALL_OBJECT bytes = container_at (record { is_large = false; is_array = false }) bytes
json_value_at JSONB_TYPE_LARGE_OBJECT bytes = container_at (record { is_large = true; is_array = false }) bytes
json_value_at JSONB_TYPE_SMALL_ARRAY bytes = container_at (record { is_large = false; is_array = true }) bytes
json_value_at JSONB_TYPE_LARGE_ARRAY bytes = container_at (record { is_large = true; is_array = true }) bytes
json_value_at JSONB_TYPE_LITERAL bytes = literal_at bytes
json_value_at JSONB_TYPE_STRING bytes = counted_at bytes >>= (λ s. Ok (text s))
json_value_at JSONB_TYPE_OPAQUE bytes = opaque_at bytes
json_value_at t bytes = json_number_at t bytes

-- How many bytes a value takes: a string or an opaque value with its length, a container as many as its size field says.
abbrev pub string_size : List ℕ → Option (ℕ × List ℕ) → ℕ
string_size bytes None = 0
string_size bytes (Some p) = length bytes - length p.1 + p.0

abbrev pub counted_size : List ℕ → ℕ
counted_size bytes = string_size bytes (sevens_split 5 bytes)

abbrev pub container_size : Bool → List ℕ → ℕ
container_size large bytes = little_number (offset_size large) (drop (offset_size large) bytes)

abbrev pub value_size : JsonbType → List ℕ → ℕ
value_size JSONB_TYPE_SMALL_OBJECT bytes = container_size false bytes
value_size JSONB_TYPE_LARGE_OBJECT bytes = container_size true bytes
value_size JSONB_TYPE_SMALL_ARRAY bytes = container_size false bytes
value_size JSONB_TYPE_LARGE_ARRAY bytes = container_size true bytes
value_size JSONB_TYPE_LITERAL bytes = 1
value_size JSONB_TYPE_STRING bytes = counted_size bytes
value_size JSONB_TYPE_OPAQUE bytes = 1 + counted_size (drop 1 bytes)
value_size t bytes = number_size t

-- the value after its type byte; an error if no type has that number
abbrev pub of_type : Option JsonbType → List ℕ → Reading JsonbValue
of_type None bytes = Err malformed
of_type (Some t) bytes = json_value_at t bytes

-- the value of a document: its type byte, then the value; no bytes are null
abbrev pub document : List ℕ → Reading JsonbValue
document [] = Ok null
document (b ∷ bytes) = of_type (jsonb_type_of b) bytes

-- how many bytes the type byte and the value take
abbrev pub typed_size : Option JsonbType → List ℕ → ℕ
typed_size None bytes = 0
typed_size (Some t) bytes = 1 + value_size t bytes

abbrev pub document_size : List ℕ → ℕ
document_size [] = 0
document_size (b ∷ bytes) = typed_size (jsonb_type_of b) bytes

-- the value at an offset that is at least `least`, the entry's end, and at most the container's size
abbrev pub pointed : JsonbType → ℕ → ℕ → List ℕ → Reading JsonbValue
pointed t offset least bytes =
    if nat_lt (length bytes) offset || nat_lt offset least then Err (Jsonb (Some InvalidValueOffsetPointer))
    else json_value_at t (drop offset bytes)

-- the value of the entry at an offset
abbrev pub entry_of : Bool → Option JsonbType → ℕ → List ℕ → Reading JsonbValue
entry_of large None at bytes = Err malformed
entry_of large (Some t) at bytes =
    if is_inlined large t then json_value_at t (take (offset_size large) (drop (at + 1) bytes))
    else pointed t (little_number (offset_size large) (drop (at + 1) bytes)) (at + value_entry_size large) bytes

-- the value of the value entry at an offset: inside the entry, or at the offset that it holds
abbrev pub entry_at : Bool → ℕ → List ℕ → Reading JsonbValue
entry_at large at bytes = entry_of large (jsonb_type_of (slice_index bytes at)) at bytes

-- value number pos of a container of n elements
abbrev pub elem : ContainerFormat → ℕ → List ℕ → ℕ → Reading JsonbValue
elem f n bytes pos = entry_at f.is_large (value_entry_offset f n pos) bytes

-- the key at an offset that is at least `least`, the entries' end; it ends within the container
abbrev pub key_in : ℕ → ℕ → ℕ → List ℕ → Reading (List ℕ)
key_in offset len least bytes =
    if nat_lt offset least || nat_lt (length bytes) (offset + len) then Err (Jsonb (Some InvalidKeyOffsetPointer))
    else Ok (take len (drop offset bytes))

-- key number pos of an object of n members
abbrev pub key : ContainerFormat → ℕ → List ℕ → ℕ → Reading (List ℕ)
key f n bytes pos =
    let entry = drop (key_entry_offset f.is_large pos) bytes in
    key_in (little_number (offset_size f.is_large) entry) (little_number 2 (drop (offset_size f.is_large) entry)) (header_size f n) bytes

-- value number pos, if there are so many
abbrev pub elem_up_to : ContainerFormat → ℕ → List ℕ → ℕ → Reading (Option JsonbValue)
elem_up_to f n bytes pos = if nat_lt pos n then elem f n bytes pos >>= (λ s. Ok (Some s)) else Ok None

-- key number pos, if there are so many
abbrev pub key_up_to : ContainerFormat → ℕ → List ℕ → ℕ → Reading (Option (List ℕ))
key_up_to f n bytes pos = if nat_lt pos n then key f n bytes pos >>= (λ s. Ok (Some s)) else Ok None

-- The same for a value that was read: whether it is an array or an object, the element count of a container, and its values and keys by their numbers. Other values have none.
abbrev pub is_array_in : JsonbValue → Bool
is_array_in (container f n bytes) = f.is_array
is_array_in _ = false

abbrev pub is_object_in : JsonbValue → Bool
is_object_in (container f n bytes) = if f.is_array then false else true
is_object_in _ = false

abbrev pub count_in : JsonbValue → ℕ
count_in (container f n bytes) = n
count_in _ = 0

abbrev pub elem_in : JsonbValue → ℕ → Reading JsonbValue
elem_in (container f n bytes) = elem f n bytes
elem_in _ = λ pos. Err malformed

abbrev pub object_key : JsonbValue → ℕ → Reading (List ℕ)
object_key (container f n bytes) = key f n bytes
object_key _ = λ pos. Err malformed

abbrev pub is_int_in : JsonbValue → Bool
is_int_in (i16 z) = true
is_int_in (i32 z) = true
is_int_in (i64 z) = true
is_int_in _ = false

abbrev pub is_uint_in : JsonbValue → Bool
is_uint_in (u16 n) = true
is_uint_in (u32 n) = true
is_uint_in (u64 n) = true
is_uint_in _ = false

abbrev pub is_double_in : JsonbValue → Bool
is_double_in (double n) = true
is_double_in _ = false

abbrev pub element_count_in : JsonbValue → Option ℕ
element_count_in (container f n bytes) = Some n
element_count_in _ = None

-- the number of an opaque value's column type
abbrev pub field_type_in : JsonbValue → Option ℕ
field_type_in (opaque t bytes) = Some t
field_type_in _ = None

-- member number pos of an object of n members: its key and its value
abbrev pub member : ContainerFormat → ℕ → List ℕ → ℕ → Reading (List ℕ × JsonbValue)
member f n bytes pos = key f n bytes pos >>= (λ k. elem f n bytes pos >>= (λ s. Ok (k, s)))

-- the entry at index pos of n, as an iterator gives it, and the index after it
abbrev pub entry_at_index : {A : Type 0} → ℕ → (ℕ → Reading A) → ℕ → Option (Reading A)
entry_at_index n at pos = if nat_lt pos n then Some (at pos) else None

abbrev pub next_index : ℕ → ℕ → ℕ
next_index n pos = if nat_lt pos n then pos + 1 else pos
