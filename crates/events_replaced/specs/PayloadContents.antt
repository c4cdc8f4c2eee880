-- The content of a TRANSACTION_PAYLOAD_EVENT, which is the events of a transaction without checksums, and the events that stand for one of MariaDB's own.
use Rattle.std.specs.Prelude.{◌≡◌, ◌≢◌, ◌<◌, ◌≤◌, ◌⊎◌, ◌-◌, ◌==◌, ◌||◌, ℕ, Bool, true, false, List, [], length, take, drop, Option, None, Some}
use Rattle.std.specs.List.{concat}
use Rattle.byteorder.specs.Endian.{little_number}
use Rattle.crc32.specs.Checksums.{crc32_of}
use Rattle.zstd_decoder.specs.Frames.{AppendsFrames}
use Rattle.rows_constants.specs.EventTypes.{event_type_number}
use Rattle.rows_constants.specs.declared.event_type.EventType.TheVariants.{TRANSACTION_PAYLOAD_EVENT}
use Rattle.events_frames.specs.HeaderFields.{header_field}
use Rattle.events_replaced.specs.MariadbTypes.{is_mariadb_number}
use Rattle.events_replaced.specs.StandingEvents.{AreStanding, HasFault as HasMariadbFault}
use Rattle.events_replaced.specs.PayloadFields.{IsPayload}
use Rattle.events_replaced.specs.StampedEvents.{AreFirstEvents}
use Rattle.events_replaced.specs.declared.replacements.ReplacementFault.{ReplacementFault}
use Rattle.events_replaced.specs.declared.replacements.ReplacementFault.TheVariants as faults

-- the bytes of an event before its checksum, which is right
pub record IsSummed (event bytes : List ℕ) : Type 0 where
  pub len : 23 ≤ length event
  pub bytes_are : bytes ≡ take (length event - 4) event
  pub sum : little_number 4 (drop (length event - 4) event) ≡ crc32_of bytes

-- the bytes of an event without a checksum that it has; that is right
abbrev pub IsChecked : Bool → List ℕ → List ℕ → Type 0
IsChecked true event bytes = IsSummed event bytes
IsChecked false event bytes = bytes ≡ event

-- the content of bytes that are compressed so: 0 is Zstandard, 255 is none
abbrev pub IsDecompressed : ℕ → List ℕ → List ℕ → Type 0
IsDecompressed compression payload content = ((compression ≡ 0) × AppendsFrames payload [] content) ⊎ ((compression ≡ 255) × (content ≡ payload))

-- whether an event is a compressed transaction
abbrev pub is_payload : List ℕ → Bool
is_payload event = header_field 4 1 event == event_type_number TRANSACTION_PAYLOAD_EVENT

-- whether other events may stand for an event: it is a compressed transaction, or one of MariaDB's own
abbrev pub is_replaced : List ℕ → Bool
is_replaced event = is_payload event || is_mariadb_number (header_field 4 1 event)

-- the content of a payload, whatever that is
pub record IsContent (event content : List ℕ) : Type 0 where
  pub compression : ℕ
  pub payload : List ℕ
  pub body : IsPayload (drop 19 event) compression (length content) payload
  pub decompressed : IsDecompressed compression payload content

-- bytes that are whole events and nothing else
pub record AreWhole (content : List ℕ) (events : List (List ℕ)) : Type 0 where
  pub are : AreFirstEvents content events
  pub all : concat events ≡ content

-- the events within a payload, which is without its checksum
pub record HasWithin (event content : List ℕ) (events : List (List ℕ)) : Type 0 where
  pub content_is : IsContent event content
  pub whole : AreWhole content events

-- the events that stand for one of MariaDB's own, which is without its checksum
pub record HasStanding (event content : List ℕ) (events : List (List ℕ)) : Type 0 where
  pub stand : AreStanding event events
  pub whole : AreWhole content events

-- the events in place of an event without its checksum
abbrev pub HasInPlace : List ℕ → List ℕ → List (List ℕ) → Type 0
HasInPlace event content events = ((is_payload event ≡ true) × HasWithin event content events) ⊎ HasStanding event content events

-- the events in place of an event
pub record HasEvents (has_checksum : Bool) (event content : List ℕ) (events : List (List ℕ)) : Type 0 where
  pub bytes : List ℕ
  pub checked : IsChecked has_checksum event bytes
  pub in_place : HasInPlace bytes content events

-- no fault was found in bytes that are events; which of the two faults others have isn't stated
abbrev pub FindsEvents : List ℕ → Option ReplacementFault → Type 0
FindsEvents content None = (events : List (List ℕ)) × AreWhole content events
FindsEvents content (Some faults.Events) = Unit {0}
FindsEvents content (Some faults.Nested) = Unit {0}
FindsEvents content _ = ⊥

-- why bytes that are compressed so, and have this content by their fields, aren't decompressed; which bytes are damaged isn't stated
abbrev pub IsNotDecompressed : ℕ → ℕ → ℕ → ReplacementFault → Type 0
IsNotDecompressed limit compression content_len faults.TooLong = limit < content_len
IsNotDecompressed limit compression content_len faults.Compression = (compression ≢ 0) × (compression ≢ 255)
IsNotDecompressed limit compression content_len faults.Damaged = Unit {0}
IsNotDecompressed limit compression content_len faults.Memory = Unit {0}
IsNotDecompressed limit compression content_len _ = ⊥

-- the fields of a payload, and why its bytes aren't decompressed
pub record HasNoContent (limit : ℕ) (event : List ℕ) (fault : ReplacementFault) : Type 0 where
  pub compression : ℕ
  pub content_len : ℕ
  pub payload : List ℕ
  pub body : IsPayload (drop 19 event) compression content_len payload
  pub why : IsNotDecompressed limit compression content_len fault

-- a payload without its checksum has this fault; which fields can't be read, and which contents are damaged or no events, isn't stated
abbrev pub HasPayloadFault : ℕ → List ℕ → ReplacementFault → Type 0
HasPayloadFault limit event faults.TooLong = HasNoContent limit event faults.TooLong
HasPayloadFault limit event faults.Compression = HasNoContent limit event faults.Compression
HasPayloadFault limit event faults.Checksum = ⊥
HasPayloadFault limit event (faults.Mariadb f) = ⊥
HasPayloadFault limit event _ = Unit {0}

-- one of MariaDB's own events without its checksum has this fault
abbrev pub HasOwnFault : ℕ → List ℕ → ReplacementFault → Type 0
HasOwnFault limit event (faults.Mariadb f) = HasMariadbFault limit event f
HasOwnFault limit event _ = ⊥

-- an event has this fault before its checksum
pub record HasFaultBefore (limit : ℕ) (has_checksum : Bool) (event : List ℕ) (fault : ReplacementFault) : Type 0 where
  pub bytes : List ℕ
  pub checked : IsChecked has_checksum event bytes
  pub has : ((is_payload bytes ≡ true) × HasPayloadFault limit bytes fault) ⊎ HasOwnFault limit bytes fault

-- an event has this fault
abbrev pub HasFault : ℕ → Bool → List ℕ → ReplacementFault → Type 0
HasFault limit has_checksum event faults.Checksum = (has_checksum ≡ true) × ((bytes : List ℕ) → IsSummed event bytes → ⊥)
HasFault limit has_checksum event fault = HasFaultBefore limit has_checksum event fault
