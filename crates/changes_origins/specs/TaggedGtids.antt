-- The body of a GTID_TAGGED_LOG_EVENT, in the format of MySQL's library `mysql::serialization` (libs/mysql/serialization/readme.md of MySQL's source; the fields are those of the class Gtid_event): the version of the format, the size of the message and the number of the last field that a reader must know, and then the fields, each after its number.
use Rattle.std.specs.Prelude.{◌≡◌, ◌<◌, ◌*◌, ◌/◌, ◌==◌, ◌||◌, ℕ, Bool, List, length, IsTrue, Option, Some, None}
use Rattle.std.specs.Char.{is_ascii_alphanumeric}
use Rattle.std.specs.List.{list_all}
use Rattle.wire_buf.specs.Encoding.{◌⨾◌, Alone, Both, Encoding, IsSequence, Lacks, Reads}
use Rattle.wire_fields_extra.specs.TrailingOnes.{IsVarlenUint}

-- a GTID with a tag
pub record TaggedGtid : Type 0 where
  pub uuid : List ℕ
  pub tag : List ℕ
  pub number : ℕ

-- an integer
abbrev pub IsInteger : Encoding ℕ
IsInteger v bytes rest = Alone IsVarlenUint v bytes rest

-- a field: its number, and what it has
abbrev pub IsField : {A : Type 0} → ℕ → Encoding A → Encoding A
IsField number content v = IsInteger number ⨾ content v

-- an integer below 256
abbrev pub IsByte : Encoding ℕ
IsByte v bytes rest = (v < 256) × IsInteger v bytes rest

-- field 1, the UUID: sixteen bytes, each an integer
abbrev pub IsUuidField : Encoding (List ℕ)
IsUuidField v bytes rest = IsField 1 (IsSequence 16 IsByte) v bytes rest

-- field 2, the number of the transaction: a signed integer, whose lowest bit is 0 unless it is negative
abbrev pub IsNumberField : Encoding ℕ
IsNumberField v bytes rest = IsField 2 (λ (n : ℕ). IsInteger (2 * n)) v bytes rest

-- a letter, a digit or an underscore
abbrev pub is_of_tag : ℕ → Bool
is_of_tag b = is_ascii_alphanumeric b || b == 95

-- the bytes of a tag
abbrev pub IsTag : Encoding (List ℕ)
IsTag v bytes rest = (bytes ≡ v) × IsTrue (list_all is_of_tag v)

-- field 3, the tag: its length, and its bytes
abbrev pub IsTagField : Encoding (List ℕ)
IsTagField v bytes rest = (IsField 3 IsInteger (length v) ⨾ IsTag v) bytes rest

-- the size of the message, the last field that must be known, the flags, which are field 0, the UUID, the number of the transaction, and the tag
abbrev pub Fields : Type 0
Fields = ℕ × (ℕ × (ℕ × (List ℕ × (ℕ × List ℕ))))

-- the body up to the tag; the version of the format is 1
abbrev pub IsBody : Encoding Fields
IsBody p bytes rest = Both (IsField 1 IsInteger) (Both IsInteger (Both (IsField 0 IsInteger) (Both IsUuidField (Both IsNumberField IsTagField)))) p bytes rest

-- the GTID that the fields have
abbrev pub gtid_in : Fields → TaggedGtid
gtid_in p = record { uuid = p.1.1.1.0; tag = p.1.1.1.1.1; number = p.1.1.1.1.0 }

-- the fields that the bytes begin with have this GTID
pub record ReadsGtid (g : TaggedGtid) (before after : List ℕ) : Type 0 where
  pub fields : Fields
  pub read : Reads IsBody fields before after
  pub gtid : g ≡ gtid_in fields

-- the GTID in the body of an event; none if the body doesn't begin with the fields
abbrev pub IsTaggedGtid : List ℕ → Option TaggedGtid → Type 0
IsTaggedGtid body None = Lacks IsBody body
IsTaggedGtid body (Some g) = (rest : List ℕ) × ReadsGtid g body rest

-- fields 4, 5 and 6: two logical timestamps, and the time of the commit in microseconds since 1970
abbrev pub IsTimes : Encoding (ℕ × (ℕ × ℕ))
IsTimes p bytes rest = Both (IsField 4 IsInteger) (Both (IsField 5 IsInteger) (IsField 6 IsInteger)) p bytes rest

-- the fields that the bytes begin with have a commit at this time, in milliseconds since 1970
pub record ReadsTime (time : ℕ) (before after : List ℕ) : Type 0 where
  pub fields : Fields × (ℕ × (ℕ × ℕ))
  pub read : Reads (Both IsBody IsTimes) fields before after
  pub time_is : time ≡ fields.1.1.1 / 1000

-- the time of the commit in the body of an event; none if the body doesn't begin with the fields
abbrev pub IsTaggedTime : List ℕ → Option ℕ → Type 0
IsTaggedTime body None = Lacks (Both IsBody IsTimes) body
IsTaggedTime body (Some time) = (rest : List ℕ) × ReadsTime time body rest
