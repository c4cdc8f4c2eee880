-- The result of reading a stream in pieces.
use Rattle.std.specs.Prelude.{◌≡◌, ◌⊎◌, ℕ, List, [], ◌++◌, Option, Some, None, Vec, map, Result, Ok, Err}
use Rattle.std.specs.List.{flat_map}
use Rattle.std.specs.Borrow.{Bor}
use Rattle.wire_packets.specs.Packets.{packets, packet_fault}
use Rattle.wire_packets.specs.CodecState.{HasRead, Halts, Stops, codec_limit}
use Rattle.wire_packets.specs.declared.packet_codec.PacketCodec.{PacketCodec}
use Rattle.wire_packets.specs.declared.error.PacketCodecError.{PacketCodecError}
use Rattle.wire_packets.specs.declared.error.PacketCodecError.TheVariants.{Memory}

-- the bytes of each vector
abbrev pub vec_items : {A : Type 0} → List (Vec ℕ A) → List (List ℕ)
vec_items vs = map (λ v. v.items) vs

-- the pieces, joined
abbrev pub joined_pieces : List (Bor (List ℕ)) → List ℕ
joined_pieces pieces = flat_map (λ p. p.now) pieces

-- every chunk that can be taken was taken
pub record Drains (c : PacketCodec) (k : ℕ) (s : List ℕ) (ps : List (List ℕ)) (g u : List ℕ) : Type 0 where
  pub state : HasRead c k s ps g u
  pub halts : Halts (codec_limit c) k ps g u None

-- a stream was read to its end, or to where reading stopped
abbrev pub TakesPackets : PacketCodec → ℕ → List ℕ → List (List ℕ) → List ℕ → List ℕ → Result (Unit {0}) PacketCodecError → Type 0
TakesPackets c k s ps g u (Ok _) = Drains c k s ps g u
TakesPackets c k s ps g u (Err e) = (out : List ℕ) × (left : List ℕ) × Stops (codec_limit c) k s ps [] out left e

-- the packets of a stream and its fault, or the first packets up to where memory ran out
abbrev pub IsReading : ℕ → ℕ → List ℕ → List (List ℕ) → Option PacketCodecError → Type 0
IsReading limit k s ps None = (packets limit k s ≡ ps) × (packet_fault limit k s ≡ None)
IsReading limit k s ps (Some e) =
    ((e ≡ Memory) × (more : List (List ℕ)) × (packets limit k s ≡ ps ++ more)) ⊎ ((packets limit k s ≡ ps) × (packet_fault limit k s ≡ Some e))

-- the state of the codec after the stream: the bytes of an incomplete packet, and the bytes left
pub record DrainsStream (c : PacketCodec) (k : ℕ) (s : List ℕ) (ps : List (List ℕ)) : Type 0 where
  pub bytes : List ℕ
  pub left : List ℕ
  pub drains : Drains c k s ps bytes left
