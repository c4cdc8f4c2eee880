-- What a semi-synchronous follower acknowledges: each event that it takes and whose flag byte asks for it, in the format of MySQL's semi-synchronous plugin.
use Rattle.std.specs.Prelude.{ℕ, ◌%◌, Bool, false, List, ◌∷◌, ◌++◌, length, take, map, filter, slice_index, ◌==◌}
use Rattle.std.specs.Int.{w64, to_le_bytes}
use Rattle.wire_packets.specs.Framing.{framing}
use Rattle.wire_packets.specs.Packets.{packets}
use Rattle.feed_checks.specs.EventFields.{Event, log_pos_of}
use Rattle.feed_transactions.specs.Rules.{Rules, good}
use Rattle.feed_replication.specs.declared.format.PayloadFormat.{PayloadFormat as Format}
use Rattle.feed_replication.specs.declared.format.PayloadFormat.TheVariants.{Plain, SemiSync}
use Rattle.feed_replication.specs.Streams.{semi_sync_magic, event_in, event_payloads, events_of}

-- SEMI_SYNC_ACK_REQ in the flag byte; its other bits are ignored
abbrev pub is_ack_requested : Format → List ℕ → Bool
is_ack_requested Plain p = false
is_ack_requested SemiSync p = slice_index p 2 % 2 == 1

-- the packet of an acknowledgement, with sequence number 0: 0xef, the position after the event in eight bytes, the binary log's name
abbrev pub acknowledgement : List ℕ → Event → List ℕ
acknowledgement name e = framing 0 (semi_sync_magic ∷ to_le_bytes w64 (log_pos_of e) ++ name)

-- the acknowledgements that these payloads of events ask for, in order
abbrev pub requested_acks : Format → List ℕ → List (List ℕ) → List (List ℕ)
requested_acks format name ps = map (λ p. acknowledgement name (event_in format p)) (filter (is_ack_requested format) ps)

-- the payloads of the events before the first fault
abbrev pub good_payloads : Rules → Format → List (List ℕ) → List (List ℕ)
good_payloads r format ps = take (length (good r (events_of format ps))) (event_payloads format ps)

-- the acknowledgements that a stream asks for
unfoldable pub acknowledgements : Rules → Format → ℕ → List ℕ → List ℕ → List (List ℕ)
acknowledgements r format limit name s = requested_acks format name (good_payloads r format (packets limit 1 s))
