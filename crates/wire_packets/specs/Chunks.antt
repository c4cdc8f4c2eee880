-- One step of a chunk decoder: the header and payload of one chunk.
use Rattle.std.specs.Prelude.{◌≡◌, ℕ, ◌+◌, ◌/◌, ◌%◌, ◌<◌, ◌≤◌, List, [], ◌∷◌, ◌++◌, length, slice_index, Option, Some, None, Result, Ok, Err}
use Rattle.wire_packets.specs.Framing.{max_chunk_len}
use Rattle.wire_packets.specs.Reading.{payload_len_at, chunk_payload, after_chunk}
use Rattle.wire_packets.specs.declared.error.PacketCodecError.{PacketCodecError}
use Rattle.wire_packets.specs.declared.error.PacketCodecError.TheVariants as faults
use Rattle.wire_packets.specs.declared.chunk_decoder.ChunkInfo.{ChunkInfo}
use Rattle.wire_packets.specs.declared.chunk_decoder.ChunkInfo.TheVariants.{Middle, Last}
use Rattle.wire_packets.specs.declared.chunk_decoder.ChunkDecoder.{ChunkDecoder}
use Rattle.wire_packets.specs.declared.chunk_decoder.ChunkDecoder.TheVariants.{Idle, Chunk}

-- the bytes of the next chunk that the decoder holds: none, or the header that it took
abbrev pub held_header : ChunkDecoder → List ℕ
held_header Idle = []
held_header (Chunk number needed) = needed % 256 ∷ (needed / 256) % 256 ∷ needed / 65536 ∷ number ∷ []

-- the payload of the whole chunk at the start was appended
pub record TakesChunk (number : ℕ) (before after out out' : List ℕ) : Type 0 where
  pub whole : 4 + payload_len_at before ≤ length before
  pub number_is : slice_index before 3 ≡ number
  pub out_is : out' ≡ out ++ chunk_payload before
  pub left : after ≡ after_chunk before

-- `before` and `after`: the header that the decoder holds, and the bytes in the buffer
abbrev pub DecodesChunk : ℕ → ChunkDecoder → List ℕ → List ℕ → List ℕ → List ℕ → Result (Option ChunkInfo) PacketCodecError → Type 0
DecodesChunk limit d before after out out' (Ok None) = (length before < 4 + payload_len_at before) × (after ≡ before) × (out' ≡ out)
DecodesChunk limit d before after out out' (Ok (Some (Middle n))) = TakesChunk n before after out out' × (max_chunk_len ≤ payload_len_at before)
DecodesChunk limit d before after out out' (Ok (Some (Last n))) = TakesChunk n before after out out' × (payload_len_at before < max_chunk_len)
DecodesChunk limit d before after out out' (Err faults.PacketTooLarge) =
    (d ≡ Idle) × (4 ≤ length before) × (limit < length out + payload_len_at before) × (after ≡ before) × (out' ≡ out)
DecodesChunk limit d before after out out' (Err faults.Memory) = (after ≡ before) × (out' ≡ out)
DecodesChunk limit d before after out out' (Err faults.PacketsOutOfSync) = ⊥
DecodesChunk limit d before after out out' (Err (faults.Io _)) = ⊥

-- a header is held, or fewer than its four bytes are there, or its chunk is too large
abbrev pub EatsHeader : ℕ → ℕ → ChunkDecoder → ChunkDecoder → List ℕ → List ℕ → Result (Unit {0}) PacketCodecError → Type 0
EatsHeader limit gathered (Chunk _ _) new u v (Ok _) = (c : ℕ) × (n : ℕ) × (new ≡ Chunk c n)
EatsHeader limit gathered Idle Idle u v (Ok _) = length v < 4
EatsHeader limit gathered Idle (Chunk number needed) u v (Ok _) = gathered + payload_len_at u ≤ limit
EatsHeader limit gathered old new u v (Err faults.PacketTooLarge) = (old ≡ Idle) × (new ≡ Idle) × (4 ≤ length v) × (limit < gathered + payload_len_at v)
EatsHeader limit gathered old new u v (Err e) = ⊥
