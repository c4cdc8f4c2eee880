-- What the reader of one chunk header finds at the start of bytes.
use Rattle.std.specs.Prelude.{◌≡◌, ℕ, true, false, List, slice_index, Some, None}
use Rattle.wire_packets.specs.Reading.{has_chunk_of, chunk_fault, payload_len_at, IsHeader}
use Rattle.wire_packets.specs.declared.header.ChunkHeader.{ChunkHeader}
use Rattle.wire_packets.specs.declared.header.NextChunk.{NextChunk}
use Rattle.wire_packets.specs.declared.header.NextChunk.TheVariants.{Partial, Chunk, Fault}

-- the header is that of the first four bytes
pub record HasHeader (s : List ℕ) (h : ChunkHeader) : Type 0 where
  pub bytes : IsHeader s
  pub len : h.len ≡ payload_len_at s
  pub number : h.number ≡ slice_index s 3

-- no such chunk and no fault; or a whole chunk with this sequence id and this length; or a fault
abbrev pub IsNextChunk : ℕ → ℕ → ℕ → List ℕ → NextChunk → Type 0
IsNextChunk limit number gathered s Partial = (has_chunk_of number limit gathered s ≡ false) × (chunk_fault limit gathered s ≡ None)
IsNextChunk limit number gathered s (Chunk n) = (has_chunk_of number limit gathered s ≡ true) × IsHeader s × (n ≡ payload_len_at s)
IsNextChunk limit number gathered s (Fault e) = (has_chunk_of number limit gathered s ≡ false) × (chunk_fault limit gathered s ≡ Some e)
