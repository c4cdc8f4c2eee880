-- Laws of framings and packets.
use Rattle.std.specs.Prelude.{◌≡◌, ℕ, ◌<◌, ◌≤◌, slice_index, Option, None, Some, ◌↔◌, List, ◌++◌, length, All}
use Rattle.wire_buf.specs.Encoding.{AreBytes}
use Rattle.wire_packets.specs.Framing.{framing, framings}
use Rattle.wire_packets.specs.Packets.{packets, packet_fault}
use Rattle.wire_packets.specs.CodecState.{SplitsInto, Halts}
use Rattle.wire_packets.specs.declared.error.PacketCodecError.{PacketCodecError}

-- framings from the same sequence id, each followed by any bytes, are equal only if payloads and following bytes are
abbrev pub FramingsAreUniquelyRead : Type 0
FramingsAreUniquelyRead = (k : ℕ) (p q r t : List ℕ) → framing k p ++ r ≡ framing k q ++ t → (p ≡ q) × (r ≡ t)

-- a stream of bytes begins with the framings of its packets, and each packet is within the limit
abbrev pub PacketsAreAPrefix : Type 0
PacketsAreAPrefix = (limit k : ℕ) (s : List ℕ) → ((i : ℕ) → slice_index s i < 256)
    → (r : List ℕ) × (s ≡ framings k (packets limit k s) ++ r) × All (λ p. length p ≤ limit) (packets limit k s)

-- if a stream begins with the framings of payloads within the limit, its packets begin with these payloads
abbrev pub PacketsAreLongest : Type 0
PacketsAreLongest = (limit k : ℕ) (s : List ℕ) (ps : List (List ℕ)) (r : List ℕ) → All (λ p. length p ≤ limit) ps → s ≡ framings k ps ++ r
    → (more : List (List ℕ)) × (packets limit k s ≡ ps ++ more)

-- the packets of framings of payloads within the limit, with no bytes after them, are these payloads, without a fault
abbrev pub FramingsAreReadBack : Type 0
FramingsAreReadBack = (limit k : ℕ) (ps : List (List ℕ)) → All (λ p. length p ≤ limit) ps
    → (packets limit k (framings k ps) ≡ ps) × (packet_fault limit k (framings k ps) ≡ None)

-- if a stream is the framings of payloads, then whole chunks of an incomplete payload, then bytes from which no chunk can be taken, these payloads are its packets and the fault at these bytes is its fault
abbrev pub PacketsEnd : Type 0
PacketsEnd = (limit k : ℕ) (s : List ℕ) (ps : List (List ℕ)) (g u : List ℕ) (fault : Option PacketCodecError) → SplitsInto limit k s ps g u → Halts limit k ps g u fault
    → (packets limit k s ≡ ps) × (packet_fault limit k s ≡ fault)

-- a stream is the framings of payloads, then whole chunks of an incomplete payload, then bytes from which no chunk can be taken, with this fault or with none
pub record HasSplit (limit k : ℕ) (s : List ℕ) : Type 0 where
  pub packets : List (List ℕ)
  pub gathered : List ℕ
  pub left : List ℕ
  pub fault : Option PacketCodecError
  pub splits : SplitsInto limit k s packets gathered left
  pub halts : Halts limit k packets gathered left fault

-- every stream of bytes has such a split
abbrev pub StreamsHaveASplit : Type 0
StreamsHaveASplit = (limit k : ℕ) (s : List ℕ) → AreBytes s → HasSplit limit k s
