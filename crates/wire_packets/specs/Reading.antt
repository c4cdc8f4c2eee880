-- A chunk's header at the start of bytes: length in three bytes, then the sequence id (MySQL Internals: MySQL Packets).
use Rattle.std.specs.Prelude.{ℕ, ◌+◌, ◌<◌, ◌%◌, Bool, ◌&&◌, List, length, take, drop, slice_index, Option, Some, None, nat_le, ◌==◌, if◌then◌else◌}
use Rattle.byteorder.specs.Endian.{little_number}
use Rattle.wire_packets.specs.declared.error.PacketCodecError.{PacketCodecError}
use Rattle.wire_packets.specs.declared.error.PacketCodecError.TheVariants.{PacketTooLarge, PacketsOutOfSync}

-- the length in the first three bytes
abbrev pub payload_len_at : List ℕ → ℕ
payload_len_at s = little_number 3 s

-- the header and as many bytes as it states are there
abbrev pub has_chunk : List ℕ → Bool
has_chunk s = nat_le (4 + payload_len_at s) (length s)

-- the header is there, and its chunk, with the `gathered` bytes of the packet before it, exceeds the limit
abbrev pub is_too_large : ℕ → ℕ → List ℕ → Bool
is_too_large limit gathered s = nat_le 4 (length s) && nat_le (limit + 1) (gathered + payload_len_at s)

-- a whole chunk with this sequence id is there, and is within the limit
abbrev pub has_chunk_of : ℕ → ℕ → ℕ → List ℕ → Bool
has_chunk_of k limit gathered s = has_chunk s && (slice_index s 3 == k % 256) && nat_le (gathered + payload_len_at s) limit

-- why no chunk is taken: `PacketTooLarge` as soon as the header has arrived, `PacketsOutOfSync` as soon as the whole chunk has; else None, bytes are missing
abbrev pub chunk_fault : ℕ → ℕ → List ℕ → Option PacketCodecError
chunk_fault limit gathered s =
    if is_too_large limit gathered s then Some PacketTooLarge
    else (if has_chunk s then Some PacketsOutOfSync else None)

-- the payload of the chunk at the start
abbrev pub chunk_payload : List ℕ → List ℕ
chunk_payload s = take (payload_len_at s) (drop 4 s)

-- the bytes after that chunk
abbrev pub after_chunk : List ℕ → List ℕ
after_chunk s = drop (4 + payload_len_at s) s

-- the three bytes of a header's length are below 256
pub record IsHeader (s : List ℕ) : Type 0 where
  pub first : slice_index s 0 < 256
  pub second : slice_index s 1 < 256
  pub third : slice_index s 2 < 256
