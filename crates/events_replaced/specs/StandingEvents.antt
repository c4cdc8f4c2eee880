-- Which events of MySQL stand for one of MariaDB's own, and for which none do (MariaDB knowledge base: 2-Binlog Event Header, and the page of each event).
use Rattle.std.specs.Prelude.{◌≡◌, ◌≤◌, ◌<◌, ◌⊎◌, ℕ, Bool, true, nat_le, ◌+◌, ◌-◌, List, [], ◌∷◌, ◌++◌, length, take, drop, ⊤}
use Rattle.std.specs.List.{concat}
use Rattle.rows_constants.specs.EventTypes.{event_type_number}
use Rattle.rows_constants.specs.declared.event_type.EventType.TheVariants as events
use Rattle.inflate.specs.Wrappings.{IsZlib}
use Rattle.events_frames.specs.HeaderFields.{header_field}
use Rattle.events_replaced.specs.MariadbTypes.{mariadb_number}
use Rattle.events_replaced.specs.MadeEvents.{begin_for, gtid_body, made}
use Rattle.events_replaced.specs.CompressedEvents.{HasData, IsCompressed, IsOtherwise}
use Rattle.events_replaced.specs.declared.mariadb_fault.MariadbFault.{MariadbFault}
use Rattle.events_replaced.specs.declared.mariadb_fault.MariadbFault.TheVariants as faults
use Rattle.events_replaced.specs.declared.mariadb_type.MariadbType.{MariadbType}
use Rattle.events_replaced.specs.declared.mariadb_type.MariadbType.TheVariants as types

-- the number of the type of the event that stands for a compressed one
abbrev pub plain_number : MariadbType → ℕ
plain_number types.QUERY_COMPRESSED_EVENT = event_type_number events.QUERY_EVENT
plain_number types.WRITE_ROWS_COMPRESSED_EVENT_V1 = event_type_number events.WRITE_ROWS_EVENT_V1
plain_number types.UPDATE_ROWS_COMPRESSED_EVENT_V1 = event_type_number events.UPDATE_ROWS_EVENT_V1
plain_number types.DELETE_ROWS_COMPRESSED_EVENT_V1 = event_type_number events.DELETE_ROWS_EVENT_V1
plain_number types.WRITE_ROWS_COMPRESSED_EVENT = event_type_number events.WRITE_ROWS_EVENT
plain_number types.UPDATE_ROWS_COMPRESSED_EVENT = event_type_number events.UPDATE_ROWS_EVENT
plain_number types.DELETE_ROWS_COMPRESSED_EVENT = event_type_number events.DELETE_ROWS_EVENT
plain_number _ = event_type_number events.UNKNOWN_EVENT

-- the fields before compressed data, without the header
abbrev pub fields_before : List ℕ → List ℕ → List ℕ
fields_before event packed = drop 19 (take (length event - length packed) event)

-- a compressed event, and the same before compression
pub record IsPlain (mariadb_type : MariadbType) (event plain : List ℕ) : Type 0 where
  pub packed : List ℕ
  pub has : HasData mariadb_type event packed
  pub fits : 19 + length packed ≤ length event
  pub content : List ℕ
  pub zlib : List ℕ
  pub compressed : IsCompressed packed (length content) zlib
  pub decompressed : IsZlib zlib content
  pub is : plain ≡ made (plain_number mariadb_type) (fields_before event packed ++ content) event

-- the events that stand for one of this type: for an annotation a ROWS_QUERY_EVENT with its text after a byte, for a checkpoint and a list of GTIDs an IGNORABLE_EVENT, for a GTID a GTID_TAGGED_LOG_EVENT and, unless a statement that is no transaction follows, BEGIN
abbrev pub StandFor : MariadbType → List ℕ → List (List ℕ) → Type 0
StandFor types.ANNOTATE_ROWS_EVENT event l = l ≡ made 29 (0 ∷ drop 19 event) event ∷ []
StandFor types.BINLOG_CHECKPOINT_EVENT event l = l ≡ made 28 (drop 19 event) event ∷ []
StandFor types.GTID_LIST_EVENT event l = l ≡ made 28 (drop 19 event) event ∷ []
StandFor types.GTID_EVENT event l = (38 ≤ length event) × (l ≡ made 42 (gtid_body event) event ∷ begin_for event)
StandFor types.START_ENCRYPTION_EVENT event l = ⊥
StandFor mariadb_type event l = (plain : List ℕ) × IsPlain mariadb_type event plain × (l ≡ plain ∷ [])

-- those that stand for an event
pub record AreStanding (event : List ℕ) (l : List (List ℕ)) : Type 0 where
  pub mariadb_type : MariadbType
  pub number : mariadb_number mariadb_type ≡ header_field 4 1 event
  pub stand : StandFor mariadb_type event l

-- they were appended
pub record AppendsStandingFor (mariadb_type : MariadbType) (event old new : List ℕ) : Type 0 where
  pub events : List (List ℕ)
  pub stand : StandFor mariadb_type event events
  pub appended : new ≡ old ++ concat events

-- a compressed event was appended as it is before compression
pub record AppendsPlain (mariadb_type : MariadbType) (event old new : List ℕ) : Type 0 where
  pub plain : List ℕ
  pub is : IsPlain mariadb_type event plain
  pub appended : new ≡ old ++ plain

-- the content of zlib's data, of this length, was appended
pub record AppendsContent (len : ℕ) (zlib old new : List ℕ) : Type 0 where
  pub content : List ℕ
  pub len_is : length content ≡ len
  pub decompressed : IsZlib zlib content
  pub appended : new ≡ old ++ content

-- the faults of a decoder
abbrev pub IsDecoderFault : MariadbFault → Type 0
IsDecoderFault faults.Damaged = ⊤
IsDecoderFault faults.Memory = ⊤
IsDecoderFault _ = ⊥

-- those that stand for an event were appended
pub record AppendsStanding (event old new : List ℕ) : Type 0 where
  pub events : List (List ℕ)
  pub are : AreStanding event events
  pub appended : new ≡ old ++ concat events

-- a GTID_EVENT without its fields
pub record IsShortGtid (mariadb_type : MariadbType) (event : List ℕ) : Type 0 where
  pub gtid : mariadb_type ≡ types.GTID_EVENT
  pub short : length event < 38

-- whether a type is one of compressed events
abbrev pub is_compressed : MariadbType → Bool
is_compressed mariadb_type = nat_le 165 (mariadb_number mariadb_type)

-- an event would be longer than the limit before compression
pub record IsLonger (limit : ℕ) (mariadb_type : MariadbType) (event : List ℕ) : Type 0 where
  pub packed : List ℕ
  pub has : HasData mariadb_type event packed
  pub len : ℕ
  pub zlib : List ℕ
  pub compressed : IsCompressed packed len zlib
  pub longer : limit < length event - length packed + len

-- the compressed data of an event is compressed in an unknown way
pub record IsUnknown (mariadb_type : MariadbType) (event : List ℕ) : Type 0 where
  pub packed : List ℕ
  pub has : HasData mariadb_type event packed
  pub otherwise : IsOtherwise packed

-- an event of this type has this fault; which fields can't be read, and which data is damaged, isn't stated
abbrev pub FaultOf : ℕ → MariadbType → List ℕ → MariadbFault → Type 0
FaultOf limit mariadb_type event faults.Encrypted = mariadb_type ≡ types.START_ENCRYPTION_EVENT
FaultOf limit mariadb_type event faults.Fields = IsShortGtid mariadb_type event ⊎ (is_compressed mariadb_type ≡ true)
FaultOf limit mariadb_type event faults.Compression = IsUnknown mariadb_type event
FaultOf limit mariadb_type event faults.TooLong = (4294967040 < length event) ⊎ IsLonger limit mariadb_type event
FaultOf limit mariadb_type event faults.Damaged = is_compressed mariadb_type ≡ true
FaultOf limit mariadb_type event faults.Memory = ⊤

-- an event has this fault
pub record HasFault (limit : ℕ) (event : List ℕ) (fault : MariadbFault) : Type 0 where
  pub mariadb_type : MariadbType
  pub number : mariadb_number mariadb_type ≡ header_field 4 1 event
  pub why : FaultOf limit mariadb_type event fault
