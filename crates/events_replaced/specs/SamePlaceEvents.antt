-- The event of MySQL in place of one of MariaDB's own, of the same size and at the same position (MariaDB's knowledge base: GTID_EVENT, 2-Binlog Event Header; MySQL source documentation: Query_event).
use Rattle.std.specs.Prelude.{◌≡◌, ◌⊎◌, ◌+◌, ◌-◌, ◌/◌, ◌%◌, ◌==◌, ◌&&◌, ◌||◌, ◌++◌, ℕ, Bool, true, false, List, [], ◌∷◌, codes, length, take, drop, nat_eq, nat_le, nat_lt, slice_index, Option, Some, None, replicate, if◌then◌else◌}
use Rattle.std.specs.List.{starts_with}
use Rattle.byteorder.specs.Endian.{little_bytes}
use Rattle.crc32.specs.Checksums.{crc32_of}
use Rattle.events_frames.specs.HeaderFields.{header_field}
use Rattle.events_replaced.specs.PayloadContents.{IsChecked, IsSummed}
use Rattle.events_replaced.specs.XaRoles.{statement_of}
use Rattle.events_replaced.specs.declared.plain_fault.PlainFault.{PlainFault}
use Rattle.events_replaced.specs.declared.plain_fault.PlainFault.TheVariants as faults

-- ---- events without such a one

-- a compressed transaction (40), or a compressed event of MariaDB (165 to 171)
abbrev pub is_compressed : ℕ → Bool
is_compressed number = number == 40 || (nat_le 165 number && nat_le number 171)

-- an XA transaction that is prepared (38), or an XA statement
abbrev pub is_xa : ℕ → List ℕ → Bool
is_xa number event = number == 38 || (number == 2 && starts_with nat_eq (statement_of event) (codes "XA "))

-- why an event of this type has none
abbrev pub fault_of : ℕ → List ℕ → Option PlainFault
fault_of number event =
    if is_compressed number then Some faults.Compressed
    else if is_xa number event then Some faults.Xa
    else if number == 164 then Some faults.Encrypted
    else None

-- ---- the bytes in place of an event that is without its checksum

-- those that others stand in place of: texts of statements, checkpoints, GTIDs and lists of these
abbrev pub is_replaced : ℕ → Bool
is_replaced number = nat_le 160 number && nat_le number 163

-- the lower byte of the flags, with LOG_EVENT_IGNORABLE_F (128)
abbrev pub ignorable : ℕ → ℕ
ignorable flags = if nat_lt flags 128 then flags + 128 else flags

-- an IGNORABLE_LOG_EVENT (28): the type follows the time (4); the server, the size, the position (12) and the flags follow it
abbrev pub ignorable_bytes : List ℕ → List ℕ
ignorable_bytes event = take 4 event ++ (28 ∷ (take 12 (drop 5 event) ++ (ignorable (slice_index event 17) ∷ drop 18 event)))

-- the body of a QUERY_EVENT with the statement BEGIN: thread and time (8), the length of the schema (1), error and the length of the status variables (4), the schema, a byte and the statement; the schema is so many spaces
unfoldable pub begin_body : ℕ → List ℕ
begin_body padding = (0 ∷ 0 ∷ 0 ∷ 0 ∷ 0 ∷ 0 ∷ 0 ∷ 0 ∷ padding ∷ 0 ∷ 0 ∷ 0 ∷ 0 ∷ []) ++ (replicate padding 32 ++ (0 ∷ codes "BEGIN"))

-- BEGIN as a QUERY_EVENT (2), whose schema is what the length leaves; the type follows the time (4), and the rest of the header follows it
abbrev pub begin_bytes : List ℕ → List ℕ
begin_bytes event = take 4 event ++ (2 ∷ (take 14 (drop 5 event) ++ begin_body (length event - 38)))

-- the length of a GTID_EVENT that BEGIN can have: that of the schema has one byte
abbrev pub has_room : List ℕ → Bool
has_room event = nat_le 38 (length event) && nat_le (length event) 293

-- the flags of a GTID_EVENT: a statement follows that is no transaction (1); an XA transaction that is prepared (64)
abbrev pub is_standalone : List ℕ → Bool
is_standalone event = slice_index event 31 % 2 == 1

abbrev pub has_xa : List ℕ → Bool
has_xa event = has_room event && slice_index event 31 / 64 % 2 == 1

-- in place of a GTID_EVENT
abbrev pub gtid_bytes : List ℕ → List ℕ
gtid_bytes event = if has_room event then (if is_standalone event then ignorable_bytes event else begin_bytes event) else event

-- in place of an event of this type
abbrev pub plain_bytes : ℕ → List ℕ → List ℕ
plain_bytes number event = if number == 162 then gtid_bytes event else ignorable_bytes event

-- ---- the event

-- bytes with their checksum, if the log's events have one
abbrev pub summed : Bool → List ℕ → List ℕ
summed true bytes = bytes ++ little_bytes 4 (crc32_of bytes)
summed false bytes = bytes

-- its checksum is wrong
abbrev pub IsWrong : Bool → List ℕ → Type 0
IsWrong has_checksum event = (has_checksum ≡ true) × ((bytes : List ℕ) → IsSummed event bytes → ⊥)

-- the event in place of another: that itself, unless it is one of those and its checksum is right
pub data IsPlain (has_checksum : Bool) (event plain : List ℕ) : Type 0 where
  Other : is_replaced (header_field 4 1 event) ≡ false → plain ≡ event → IsPlain has_checksum event plain
  Damaged : IsWrong has_checksum event → plain ≡ event → IsPlain has_checksum event plain
  Made : (bytes : List ℕ) → IsChecked has_checksum event bytes → is_replaced (header_field 4 1 event) ≡ true → plain ≡ summed has_checksum (plain_bytes (header_field 4 1 event) bytes) → IsPlain has_checksum event plain

-- there is none: by its type or its statement, or since it is the GTID of an XA transaction
pub data IsUnplain (has_checksum : Bool) (event : List ℕ) (fault : PlainFault) : Type 0 where
  ByType : fault_of (header_field 4 1 event) event ≡ Some fault → IsUnplain has_checksum event fault
  ByGtid : (bytes : List ℕ) → IsChecked has_checksum event bytes → header_field 4 1 event ≡ 162 → has_xa bytes ≡ true → fault ≡ faults.Xa → IsUnplain has_checksum event fault
  NoMemory : fault ≡ faults.Memory → IsUnplain has_checksum event fault
