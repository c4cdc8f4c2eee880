-- Worked streams: a server's packets, what a follower prints of them, and the request for them.
use Rattle.std.specs.Prelude.{ℕ, ◌+◌, List, [], ◌∷◌, ◌++◌, length, take, codes}
use Rattle.feed_checks.specs.declared.verdict.Verdict.{Verdict}
use Rattle.feed_checks.specs.EventFields.{Event}
use Rattle.feed_transactions.specs.Rules.{rules}
use Rattle.binlog_feed.specs.WorkedEvents.{zeros, begin_event, map_event, write_event, commit_event, one_insert_events, with_checksum, checksummed_with}
use Rattle.feed_transactions.specs.Reports.{Printed, printed}
use Rattle.feed_replication.specs.declared.format.PayloadFormat.{PayloadFormat as Format}
use Rattle.feed_replication.specs.declared.format.PayloadFormat.TheVariants.{Plain, SemiSync}
use Rattle.feed_replication.specs.Streams.{payload_of, stream_report, program_limit}
use Rattle.feed_replication.specs.Acknowledgements.{acknowledgements}

-- what a stream prints, by the feed's rules with a checksum function that always returns 0
abbrev pub stream_prints : Format → ℕ → List ℕ → Printed
stream_prints format limit s = printed (stream_report (rules (λ bytes. 0)) format limit s)

abbrev pub prints : List ℕ → Verdict → Printed
prints text v = record { text = text; verdict = v }

-- a small packet with this sequence number and payload
abbrev pub packet : ℕ → List ℕ → List ℕ
packet number payload = length payload ∷ 0 ∷ 0 ∷ number ∷ payload

-- the packet of an event
abbrev pub packet_of : ℕ → Event → List ℕ
packet_of number e = packet number (payload_of Plain e)

-- the packets of events, with consecutive sequence numbers
abbrev pub packets_from : Format → ℕ → List Event → List ℕ
packets_from format number [] = []
packets_from format number (e ∷ l) = packet number (payload_of format e) ++ packets_from format (number + 1) l

-- the packet that closes an answer
abbrev pub closing_packet : ℕ → List ℕ
closing_packet number = packet number (254 ∷ 0 ∷ 0 ∷ 2 ∷ 0 ∷ [])

-- an answer of one transaction, without and with its closing packet
abbrev pub open_answer : List ℕ
open_answer = packets_from Plain 1 one_insert_events

abbrev pub whole_answer : List ℕ
whole_answer = open_answer ++ closing_packet 5

-- the same of a log with checksums, and with payloads that ask for acknowledgements
abbrev pub checksummed_answer : List ℕ
checksummed_answer = packets_from Plain 1 (checksummed_with (with_checksum (zeros 4) 168 map_event)) ++ closing_packet 6

abbrev pub semi_synchronous_answer : List ℕ
semi_synchronous_answer = packets_from SemiSync 1 one_insert_events ++ closing_packet 5

-- an answer whose second packet has sequence number 3
abbrev pub misnumbered_answer : List ℕ
misnumbered_answer = packet_of 1 begin_event ++ packet_of 3 map_event ++ packet_of 3 write_event

-- the same, truncated within that packet
abbrev pub truncated_misnumbered : List ℕ
truncated_misnumbered = take 80 misnumbered_answer

-- payloads that aren't events: no bytes; 0xfe and eight more bytes; a zero byte and 18 bytes
abbrev pub empty_payload : List ℕ
empty_payload = packet 1 []

abbrev pub long_closing_payload : List ℕ
long_closing_payload = packet 1 (254 ∷ 0 ∷ 0 ∷ 2 ∷ 0 ∷ 0 ∷ 0 ∷ 0 ∷ 0 ∷ [])

abbrev pub short_event_payload : List ℕ
short_event_payload = packet 1 (0 ∷ take 18 begin_event)

-- a server's error packet
abbrev pub error_packet : List ℕ
error_packet = packet 1 (255 ∷ 1 ∷ 0 ∷ [])

-- the request for master-bin.000002 from position 4 on, for server id 1
abbrev pub worked_request : List ℕ
worked_request = 28 ∷ 0 ∷ 0 ∷ 0 ∷ 18 ∷ 4 ∷ 0 ∷ 0 ∷ 0 ∷ 1 ∷ 0 ∷ 1 ∷ 0 ∷ 0 ∷ 0 ∷ codes "master-bin.000002"

-- an answer whose first and last event have these flags
abbrev pub flagged : ℕ → Event → List ℕ
flagged flags e = 0 ∷ 239 ∷ flags ∷ e

abbrev pub flagged_answer : ℕ → ℕ → List ℕ
flagged_answer first last = packet 1 (flagged first begin_event) ++ packet 2 (flagged 0 map_event) ++ packet 3 (flagged 0 write_event) ++ packet 4 (flagged last commit_event) ++ closing_packet 5

-- the same, but for the sequence number of the last event's packet
abbrev pub misnumbered_flagged_answer : List ℕ
misnumbered_flagged_answer = packet 1 (flagged 1 begin_event) ++ packet 2 (flagged 0 map_event) ++ packet 3 (flagged 0 write_event) ++ packet 5 (flagged 1 commit_event)

-- the acknowledgement of an event that ends at this position, for the log "m"
abbrev pub ack_of : ℕ → List ℕ
ack_of position = packet 0 (239 ∷ position ∷ zeros 7 ++ codes "m")

-- the acknowledgements that a stream asks for
abbrev pub asks_for : Format → List ℕ → List (List ℕ)
asks_for format s = acknowledgements (rules (λ bytes. 0)) format program_limit (codes "m") s
