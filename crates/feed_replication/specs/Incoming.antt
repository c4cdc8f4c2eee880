-- The packets of an answer as they arrive: where the payload of the next packet is, and the bytes after it.
use Rattle.std.specs.Prelude.{◌≡◌, ℕ, ◌+◌, ◌≤◌, List, [], length, take, drop, Option, Some, None, Result, Ok, Err}
use Rattle.wire_packets.specs.CodecState.{HasRead, GivesPacket, Waits, Stops, codec_limit}
use Rattle.wire_packets.specs.declared.error.PacketCodecError.{PacketCodecError}
use Rattle.feed_replication.specs.declared.incoming.Incoming.{Incoming}
use Rattle.feed_replication.specs.declared.incoming.Found.{Found}
use Rattle.feed_replication.specs.declared.incoming.Found.TheVariants.{Received, Gathered}

-- before the first byte of an answer
pub record IsFresh (i : Incoming) : Type 0 where
  pub codec : HasRead i.codec 1 [] [] [] []
  pub none_received : i.received.items ≡ []
  pub none_gathered : i.gathered.items ≡ []

-- n bytes were received after a packet's header
abbrev pub IsFound : Incoming → Found → Type 0
IsFound i (Received n) = 4 + n ≤ length i.received.items
IsFound i Gathered = Unit {0}

-- the number of received bytes up to the end of the packet that was found, if there is one
abbrev pub found_end : Option Found → ℕ
found_end None = 0
found_end (Some (Received n)) = 4 + n
found_end (Some Gathered) = 0

-- the payload that was found there
abbrev pub found_payload : Incoming → Found → List ℕ
found_payload i (Received n) = take n (drop 4 i.received.items)
found_payload i Gathered = i.gathered.items

-- the bytes after its packet
abbrev pub after : Incoming → Found → List ℕ
after i (Received n) = drop (4 + n) i.received.items
after i Gathered = i.received.items

-- the payload of the newest packet; no bytes if there is none
abbrev pub payload_found : Incoming → Option Found → List ℕ
payload_found i None = []
payload_found i (Some f) = found_payload i f

-- the chunks of the packet after it that were gathered
abbrev pub gathered_left : Incoming → Option Found → List ℕ
gathered_left i None = i.gathered.items
gathered_left i (Some f) = []

-- the bytes after it that weren't taken
abbrev pub received_left : Incoming → Option Found → List ℕ
received_left i None = i.received.items
received_left i (Some f) = after i f

-- the result of `next`, given the payloads ps of the stream s before it
abbrev pub FindsNext : Incoming → List ℕ → List (List ℕ) → Result (Option Found) PacketCodecError → Type 0
FindsNext i s ps (Ok (Some position)) = GivesPacket i.codec 1 s ps [] (found_payload i position) (after i position)
FindsNext i s ps (Ok None) = Waits i.codec 1 s ps [] i.gathered.items i.received.items
FindsNext i s ps (Err e) = Stops (codec_limit i.codec) 1 s ps [] i.gathered.items i.received.items e
