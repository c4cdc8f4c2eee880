-- The events of a server's answer, one by one, and the log that each is in: the one that the newest ROTATE_EVENT names (MySQL Internals: Binlog Network Stream).
use Rattle.std.specs.Prelude.{◌≡◌, ◌⊎◌, ◌<◌, ◌-◌, ℕ, Bool, true, false, ◌&&◌, List, [], ◌∷◌, ◌++◌, length, take, drop, Option, None, Result, Ok, Err, unwrap_or, nat_le, ◌==◌, if◌then◌else◌}
use Rattle.std.specs.Global.{Vec}
use Rattle.byteorder.specs.Endian.{little_number}
use Rattle.rows_constants.specs.EventTypes.{event_type_number as number}
use Rattle.rows_constants.specs.declared.event_type.EventType.TheVariants as event
use Rattle.wire_packets.specs.CodecState as codec
use Rattle.feed_checks.specs.declared.verdict.Verdict.{Verdict}
use Rattle.feed_checks.specs.declared.verdict.Verdict.TheVariants.{Body}
use Rattle.feed_checks.specs.EventFields.{Event, type_of}
use Rattle.feed_checks.specs.PastLists.{newest, when}
use Rattle.feed_transactions.specs.Rules.{Rules}
use Rattle.feed_replication.specs.AnswerReaders.{AreGoodPayloads}
use Rattle.feed_replication.specs.AnswerSteps.{EndsBy}
use Rattle.feed_replication.specs.Incoming.{payload_found, gathered_left, received_left}
use Rattle.feed_replication.specs.Streams.{holds_event, event_in}
use Rattle.feed_replication.specs.declared.answer_events.AnswerEvents.{AnswerEvents}
use Rattle.feed_replication.specs.declared.format.PayloadFormat.{PayloadFormat as Format}
use Rattle.feed_replication.specs.declared.requests.LogName.{LogName}

-- ---- the log that an event is in

-- the last four bytes of an event are the checksum of the bytes before them
abbrev pub has_sum : (List ℕ → ℕ) → Event → Bool
has_sum sum e = nat_le 23 (length e) && (sum (take (length e - 4) e) == little_number 4 (drop (length e - 4) e))

-- an event without its checksum
abbrev pub bare : (List ℕ → ℕ) → Event → List ℕ
bare sum e = if has_sum sum e then take (length e - 4) e else e

-- the log that a ROTATE_EVENT leads to: its bytes after header and position; None for another event
abbrev pub named : (List ℕ → ℕ) → Event → Option (List ℕ)
named sum e = when (type_of e == number event.ROTATE_EVENT) (drop 27 (bare sum e))

-- the log that the newest of these events leads to that leads to one, or else the first log
abbrev pub log_name : (List ℕ → ℕ) → List ℕ → List Event → List ℕ
log_name sum first past = unwrap_or (newest (named sum) past) first

-- a ROTATE_EVENT has no name, or one of more than 511 bytes
pub record HasNoName (sum : List ℕ → ℕ) (e : Event) (v : Verdict) : Type 0 where
  pub is : v ≡ Body
  pub rotates : type_of e ≡ number event.ROTATE_EVENT
  pub length_is : (length (bare sum e) < 27) ⊎ (511 < length (drop 27 (bare sum e)))

-- ---- the state

-- the checksum function
abbrev pub checksum_of : {F : Type 0} → AnswerEvents F → F
checksum_of a = a.checksum

-- the format of the payloads
abbrev pub format_of : {F : Type 0} → AnswerEvents F → Format
format_of a = a.format

-- the maximum length of a payload
abbrev pub limit_of : {F : Type 0} → AnswerEvents F → ℕ
limit_of a = codec.codec_limit a.incoming.codec

-- the name of the log
abbrev pub name_of : {F : Type 0} → AnswerEvents F → List ℕ
name_of a = a.name.bytes.items

-- the acknowledgements that are due
abbrev pub due_of : {F : Type 0} → AnswerEvents F → List ℕ
due_of a = a.due_acks.items

-- the payload of the newest packet; no bytes if there is none
abbrev pub payload_of : {F : Type 0} → AnswerEvents F → List ℕ
payload_of a = payload_found a.incoming a.found

-- the event that a payload holds; no bytes if it holds none
abbrev pub event_or_none : Format → List ℕ → List ℕ
event_or_none format p = if holds_event format p then event_in format p else []

-- the newest event; no bytes if there is none
abbrev pub event_of : {F : Type 0} → AnswerEvents F → List ℕ
event_of a = event_or_none a.format (payload_found a.incoming a.found)

-- takes every event
abbrev pub every : Rules
every = record { fault = λ past e. None; shows = λ past e. []; damage = λ past e. None }

-- these payloads of the stream s were taken; `past` are their events, the newest first
pub record HasPayloads {F : Type 0} (a : AnswerEvents F) (s : List ℕ) (ps : List (List ℕ)) (past : List Event) : Type 0 where
  pub codec : codec.HasRead a.incoming.codec 1 s ps (gathered_left a.incoming a.found) (received_left a.incoming a.found)
  pub good : AreGoodPayloads every a.format ps past

-- and the log is that of the newest of them; `first` is the one that was asked for
pub record HasEvents {F : Type 0} (sum : List ℕ → ℕ) (first : List ℕ) (a : AnswerEvents F) (s : List ℕ) (ps : List (List ℕ)) (past : List Event) : Type 0 where
  pub payloads : HasPayloads a s ps past
  pub name : name_of a ≡ log_name sum first past

-- the same with this name
abbrev pub with_name : {F : Type 0} → AnswerEvents F → LogName → AnswerEvents F
with_name a n = record a { name = n }

-- the same with these acknowledgements
abbrev pub with_due_acks : {F : Type 0} → AnswerEvents F → Vec ℕ → AnswerEvents F
with_due_acks a v = record a { due_acks = v }

-- ---- what a call does

-- format, limit, acknowledgements and checksum function are unchanged
pub record KeepsSettings {F : Type 0} (old new : AnswerEvents F) : Type 0 where
  pub format : format_of new ≡ format_of old
  pub limit : limit_of new ≡ limit_of old
  pub due_acks : due_of new ≡ due_of old
  pub checksum : checksum_of new ≡ checksum_of old

-- one more payload was taken, and this is its event
pub record HasNext {F : Type 0} (a : AnswerEvents F) (s : List ℕ) (ps : List (List ℕ)) (past : List Event) : Type 0 where
  pub payload : List ℕ
  pub payload_is : payload_found a.incoming a.found ≡ payload
  pub event_is : event_or_none a.format (payload_found a.incoming a.found) ≡ event_in a.format payload
  pub taken : HasPayloads a s (ps ++ payload ∷ []) (event_in a.format payload ∷ past)

-- no further packet is complete
pub record HasNone {F : Type 0} (a : AnswerEvents F) (s : List ℕ) (ps : List (List ℕ)) (past : List Event) : Type 0 where
  pub taken : HasPayloads a s ps past
  pub halts : codec.Halts (limit_of a) 1 ps (gathered_left a.incoming a.found) (received_left a.incoming a.found) None

-- the next packet was found, or there is none, or the answer ends by this verdict, whatever bytes follow
abbrev pub FindsPacket : {F : Type 0} → AnswerEvents F → List ℕ → List (List ℕ) → List Event → Result Bool Verdict → Type 0
FindsPacket a s ps past (Ok true) = HasNext a s ps past
FindsPacket a s ps past (Ok false) = HasNone a s ps past
FindsPacket a s ps past (Err v) = EndsBy every (format_of a) (limit_of a) s ps past v

-- the result of `next_event`: the next event is at hand, and the log is the one that it is in; or no further packet is complete; or the
-- answer ends by this verdict, whatever bytes follow, or has a ROTATE_EVENT without a name
abbrev pub GivesNext : {F : Type 0} → (List ℕ → ℕ) → List ℕ → AnswerEvents F → List ℕ → List (List ℕ) → List Event → Result Bool Verdict → Type 0
GivesNext sum first a s ps past (Ok true) = (p : List ℕ) × (event_of a ≡ event_in (format_of a) p) × HasEvents sum first a s (ps ++ p ∷ []) (event_in (format_of a) p ∷ past)
GivesNext sum first a s ps past (Ok false) = HasEvents sum first a s ps past × codec.Halts (limit_of a) 1 ps (gathered_left a.incoming a.found) (received_left a.incoming a.found) None
GivesNext sum first a s ps past (Err v) = EndsBy every (format_of a) (limit_of a) s ps past v ⊎ HasNoName sum (event_of a) v
