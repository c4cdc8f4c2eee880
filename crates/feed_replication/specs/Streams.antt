-- The report of a stream of packets (MySQL Internals: Binlog Network Stream), plain or semi-synchronous.
use Rattle.std.specs.Prelude.{ℕ, Bool, ◌&&◌, List, [], ◌∷◌, length, drop, map, slice_index, Option, Some, None, option_map, nat_le, nat_lt, ◌==◌, if◌then◌else◌}
use Rattle.rows_constants.specs.EventTypes.{event_type_number as number}
use Rattle.rows_constants.specs.declared.event_type.EventType.TheVariants as event
use Rattle.wire_packets.specs.Packets.{packets, packet_fault}
use Rattle.wire_packets.specs.declared.error.PacketCodecError.{PacketCodecError}
use Rattle.wire_packets.specs.declared.error.PacketCodecError.TheVariants as codec
use Rattle.events_frames.specs.Events.{header_size_field}
use Rattle.feed_checks.specs.declared.verdict.Verdict.{Verdict}
use Rattle.feed_checks.specs.declared.verdict.Verdict.TheVariants as verdicts
use Rattle.feed_checks.specs.PastLists.{is_among}
use Rattle.feed_checks.specs.EventFields.{Event, type_of}
use Rattle.feed_transactions.specs.Transactions.{Transaction}
use Rattle.feed_transactions.specs.Rules.{Rules, Report, shown, first_fault, verdict_or}
use Rattle.feed_transactions.specs.TransactionTexts.{texts_of}
use Rattle.feed_replication.specs.PrefixLists.{prefix_while, from_first_failing}
-- before the event, a payload has a zero byte (plain), or a zero byte, 0xef and a flag byte that may ask for an acknowledgement (semi-synchronous)
pub use Rattle.feed_replication.specs.declared.format.PayloadFormat.{PayloadFormat as Format}
pub use Rattle.feed_replication.specs.declared.format.PayloadFormat.TheVariants.{Plain, SemiSync}

-- the second byte of a semi-synchronous payload, and the first of an acknowledgement
abbrev pub semi_sync_magic : ℕ
semi_sync_magic = 239

-- the first byte of an ERR packet
abbrev pub err_byte : ℕ
err_byte = 255

-- the first byte of an EOF packet
abbrev pub eof_byte : ℕ
eof_byte = 254

-- an EOF packet is shorter than this
abbrev pub eof_limit : ℕ
eof_limit = 9

-- the program's limit for the length of a payload
abbrev pub program_limit : ℕ
program_limit = 1073741824

-- the bytes are exactly one event, as long as its header says
abbrev pub is_one_event : List ℕ → Bool
is_one_event e = nat_le 19 (length e) && (header_size_field e == length e)

-- the payload holds an event
unfoldable pub holds_event : Format → List ℕ → Bool
holds_event Plain p = (slice_index p 0 == 0) && is_one_event (drop 1 p)
holds_event SemiSync p = (slice_index p 0 == 0) && (slice_index p 1 == semi_sync_magic) && is_one_event (drop 3 p)

-- the event that it holds
abbrev pub event_in : Format → List ℕ → Event
event_in Plain p = drop 1 p
event_in SemiSync p = drop 3 p

-- the flag byte that `serve_semi` sends: 1 for QUERY_EVENT and XID_EVENT, else 0; a MySQL source sets it only at the end of a transaction
abbrev pub ack_flag : Event → ℕ
ack_flag e = if is_among (number event.QUERY_EVENT ∷ number event.XID_EVENT ∷ []) (type_of e) then 1 else 0

-- the payload of an event as `serve` and `serve_semi` send it
abbrev pub payload_of : Format → Event → List ℕ
payload_of Plain e = 0 ∷ e
payload_of SemiSync e = 0 ∷ semi_sync_magic ∷ ack_flag e ∷ e

-- the verdict for a payload that is no event: `ServerError` for 0xff, `End` for 0xfe in fewer than nine bytes, else `NotAnEvent`
abbrev pub closing_verdict : List ℕ → Verdict
closing_verdict p =
    if nat_lt (length p) 1 then verdicts.NotAnEvent
    else if slice_index p 0 == err_byte then verdicts.ServerError
    else if (slice_index p 0 == eof_byte) && nat_lt (length p) eof_limit then verdicts.End
    else verdicts.NotAnEvent

-- the verdict for an error of the packet codec; `Io` is never returned
abbrev pub packet_verdict : PacketCodecError → Verdict
packet_verdict (codec.Io fault) = verdicts.NotAnEvent
packet_verdict codec.PacketTooLarge = verdicts.TooLarge
packet_verdict codec.PacketsOutOfSync = verdicts.OutOfNumber
packet_verdict codec.Memory = verdicts.Memory

-- the payloads before the first that holds no event
unfoldable pub event_payloads : Format → List (List ℕ) → List (List ℕ)
event_payloads format ps = prefix_while (holds_event format) ps

-- the events of these payloads
abbrev pub events_of : Format → List (List ℕ) → List Event
events_of format ps = map (event_in format) (event_payloads format ps)

-- the verdict for the first of these payloads, if there is one
abbrev pub verdict_of_first : List (List ℕ) → Option Verdict
verdict_of_first [] = None
verdict_of_first (p ∷ ps) = Some (closing_verdict p)

-- the verdict for the first payload that holds no event, if there is one
unfoldable pub verdict_of_other : Format → List (List ℕ) → Option Verdict
verdict_of_other format ps = verdict_of_first (from_first_failing (holds_event format) ps)

-- the events of a stream whose packets have sequence numbers from 1 on, and whose payloads have at most `limit` bytes
abbrev pub stream_events : Format → ℕ → List ℕ → List Event
stream_events format limit s = events_of format (packets limit 1 s)

-- the transactions that a stream shows
unfoldable pub stream_transactions : Rules → Format → ℕ → List ℕ → List Transaction
stream_transactions r format limit s = shown r (stream_events format limit s)

-- the texts of these transactions
abbrev pub stream_texts : Rules → Format → ℕ → List ℕ → List (List ℕ)
stream_texts r format limit s = texts_of (stream_transactions r format limit s)

-- the verdict of a stream: the first fault of its events, else that for the payload after them, else that for the error of its packets, else `Closed`
unfoldable pub stream_verdict : Rules → Format → ℕ → List ℕ → Verdict
stream_verdict r format limit s =
    verdict_or (first_fault r (stream_events format limit s)) (verdict_or (verdict_of_other format (packets limit 1 s)) (verdict_or (option_map packet_verdict (packet_fault limit 1 s)) verdicts.Closed))

-- the report of a stream
abbrev pub stream_report : Rules → Format → ℕ → List ℕ → Report
stream_report r format limit s = record { transactions = stream_transactions r format limit s; verdict = stream_verdict r format limit s }
