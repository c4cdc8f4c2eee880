-- TABLE_MAP_EVENT (MySQL Internals: Table_map_event): its contents and its bytes.
use Rattle.std.specs.Prelude.{ℕ, List, [], ◌∷◌, length, take, Option, Some, None, ◌≡◌, ◌⊎◌, ◌+◌, ◌/◌, ◌==◌, ◌&&◌, nat_le, if◌then◌else◌}
use Rattle.wire_buf.specs.Encoding.{Encoding, ◌⨾◌, Both, Alone, IsBytes, AreBytes}
use Rattle.wire_buf.specs.ReadErrors.{BeginsThen}
use Rattle.wire_buf.specs.Writing.{concat_some}
use Rattle.wire_buf.specs.Numbers.{IsLittle, IsLenenc, IsShortString, IsLenencString, lenenc_encoded}
use Rattle.wire_buf.specs.declared.fault.WireFault.{WireFault}
use Rattle.wire_buf.specs.declared.fault.WireFault.TheVariants.{Eof, BadNumber}
use Rattle.wire_fields.specs.IntFaults.{lenenc_fault}
use Rattle.wire_fields.specs.Ints.{little_encoded}
use Rattle.wire_fields.specs.Strings.{counted_bytes, lenenc_string_encoded}
use Rattle.wire_fields.specs.ByteStrings.{IsAll, IsSkipped}

-- a number in n bytes, in little-endian order
abbrev pub little_endian : ℕ → Encoding ℕ
little_endian n = Alone (IsLittle n)

-- n bytes, unchanged
abbrev pub plain_bytes : ℕ → Encoding (List ℕ)
plain_bytes n = Alone (IsBytes n)

-- the contents of a table map: the types of its columns, their metadata, a bit for each column that says whether it may be NULL, and the optional metadata
pub record TableMap : Type 0 where
  pub table_id : ℕ
  pub flags : ℕ
  pub database : List ℕ
  pub table : List ℕ
  pub column_types : List ℕ
  pub metadata : List ℕ
  pub null_bitmask : List ℕ
  pub optional_metadata : List ℕ

-- the table id has four bytes if the post-header length of table maps is 6, otherwise six
abbrev pub id_width : ℕ → ℕ
id_width post_header = if post_header == 6 then 4 else 6

-- each name has its length in one byte before it and an ignored byte after it
abbrev pub IsTableMap : ℕ → Encoding TableMap
IsTableMap post_header t =
    (little_endian (id_width post_header) t.table_id
    ⨾ little_endian 2 t.flags
    ⨾ Alone IsShortString t.database ⨾ IsSkipped 1
    ⨾ Alone IsShortString t.table ⨾ IsSkipped 1
    ⨾ Alone IsLenenc (length t.column_types))
    ⨾ plain_bytes (length t.column_types) t.column_types
    ⨾ Alone IsLenencString t.metadata
    ⨾ plain_bytes ((length t.column_types + 7) / 8) t.null_bitmask
    ⨾ IsAll t.optional_metadata

-- the fields before the column count: the table id, the flags and the names, with the ignored bytes
abbrev pub Names : Type 0
Names = ℕ × (ℕ × (List ℕ × (Unit {0} × (List ℕ × Unit {0}))))

abbrev pub Skipped : Encoding (Unit {0})
Skipped v = IsSkipped 1

abbrev pub IsNames : ℕ → Encoding Names
IsNames post_header =
    Both (little_endian (id_width post_header)) (Both (little_endian 2) (Both (Alone IsShortString) (Both Skipped (Both (Alone IsShortString) Skipped))))

-- the column count, and then the types
abbrev pub IsTypes : Encoding (List ℕ)
IsTypes types = Alone IsLenenc (length types) ⨾ plain_bytes (length types) types

-- the first byte begins no length-encoded integer: it is 251 or 255
abbrev pub BeginsNoLenenc : List ℕ → Type 0
BeginsNoLenenc bytes = lenenc_fault bytes ≡ BadNumber

-- the column count, or the length of the metadata, begins with 251 or 255
abbrev pub HasBadNumber : ℕ → List ℕ → Type 0
HasBadNumber post_header x =
    BeginsThen (IsNames post_header) (λ names rest. BeginsNoLenenc rest) x
    ⊎ BeginsThen (Both (IsNames post_header) IsTypes) (λ v rest. BeginsNoLenenc rest) x

-- `BadNumber` exactly if there is such a number, otherwise `Eof`: bytes are missing
abbrev pub IsMapFault : ℕ → List ℕ → WireFault → Type 0
IsMapFault post_header x fault = ((fault ≡ BadNumber) × HasBadNumber post_header x) ⊎ ((fault ≡ Eof) × (HasBadNumber post_header x → ⊥))

-- the bytes that are written for a table map: the id in six bytes, zeros for the ignored bytes; None if the table id needs more than six bytes, there are more than 4294967295 columns, or the numbers of columns and of NULL bits don't match
abbrev pub table_map_encoded : TableMap → Option (List ℕ)
table_map_encoded t =
    if nat_le (length t.column_types) 4294967295 && (length t.null_bitmask == (length t.column_types + 7) / 8) then
    concat_some
    (concat_some (little_encoded 6 t.table_id) (concat_some (little_encoded 2 t.flags) (concat_some (Some (counted_bytes 1 t.database)) (concat_some (Some (0 ∷ []))
    (concat_some (Some (counted_bytes 1 t.table)) (concat_some (Some (0 ∷ [])) (Some (lenenc_encoded (length t.column_types)))))))))
    (concat_some (Some t.column_types) (concat_some (Some (lenenc_string_encoded t.metadata)) (concat_some (Some t.null_bitmask) (Some t.optional_metadata))))
    else None

-- the part of a table map that is written: all of it, except that names are truncated to 255 bytes
abbrev pub written_map : TableMap → TableMap
written_map t = record t { database = take 255 t.database; table = take 255 t.table }

-- a table map that was read with post-header length 8, which servers use today, is written completely
abbrev pub IsMapWrittenWhole : Type 0
IsMapWrittenWhole = (t : TableMap) (bytes rest : List ℕ) → AreBytes bytes → IsTableMap 8 t bytes rest → written_map t ≡ t
