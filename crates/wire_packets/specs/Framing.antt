-- MySQL's packet framing: a payload as numbered chunks (MySQL's manual, "MySQL Packets").
use Rattle.std.specs.Prelude.{ℕ, ◌+◌, ◌*◌, ◌/◌, ◌%◌, List, [], ◌∷◌, ◌++◌, length, take, drop}
use Rattle.std.specs.List.{flat_map, range_with_len}

-- the largest payload of one chunk
abbrev pub max_chunk_len : ℕ
max_chunk_len = 16777215

-- a chunk: its length in three little-endian bytes, its sequence id modulo 256, its payload
abbrev pub chunk : ℕ → List ℕ → List ℕ
chunk k bytes = length bytes % 256 ∷ (length bytes / 256) % 256 ∷ length bytes / 65536 ∷ k % 256 ∷ bytes

-- slice i of a payload that is split into slices of this width
unfoldable pub slice_of : ℕ → List ℕ → ℕ → List ℕ
slice_of width p i = take width (drop (i * width) p)

-- the first m slices of a payload, each as a chunk, with sequence ids from k on
unfoldable pub chunks : ℕ → ℕ → ℕ → List ℕ → List ℕ
chunks width k m p = flat_map (λ i. chunk (k + i) (slice_of width p i)) (range_with_len 0 m)

-- the chunks of a payload, numbered from k: full ones, then a shorter one, which may be empty
abbrev pub framing : ℕ → List ℕ → List ℕ
framing k p = chunks max_chunk_len k (length p / max_chunk_len + 1) p

-- the sequence id after a framing
abbrev pub next_sequence_id : ℕ → List ℕ → ℕ
next_sequence_id k p = (k + length p / max_chunk_len + 1) % 256

-- the framings of payloads, with consecutive sequence ids
unfoldable pub framings : ℕ → List (List ℕ) → List ℕ
framings k [] = []
framings k (p ∷ ps) = framing k p ++ framings (next_sequence_id k p) ps

-- the sequence id after these framings
unfoldable pub sequence_id_after : ℕ → List (List ℕ) → ℕ
sequence_id_after k [] = k
sequence_id_after k (p ∷ ps) = sequence_id_after (next_sequence_id k p) ps
