-- The packets of a stream and its first fault, as functions of the whole stream (MySQL Internals: MySQL Packets).
use Rattle.std.specs.Prelude.{ℕ, zero, suc, ◌+◌, ◌/◌, ◌&&◌, List, [], ◌∷◌, ◌++◌, length, drop, Option, Some, None, option_map, ◌==◌, if◌then◌else◌}
use Rattle.wire_packets.specs.Framing.{max_chunk_len, framing, framings, next_sequence_id, sequence_id_after}
use Rattle.wire_packets.specs.Reading.{payload_len_at, has_chunk_of, chunk_fault, chunk_payload, after_chunk}
use Rattle.wire_packets.specs.declared.error.PacketCodecError.{PacketCodecError}

-- the payload whose chunks s begins with, numbered from k, if it is complete and within the limit; `before` bytes of it came before s; at most n chunks
unfoldable pub payload_in : ℕ → ℕ → ℕ → ℕ → List ℕ → Option (List ℕ)
payload_in zero limit k before s = None
payload_in (suc n) limit k before s =
    if has_chunk_of k limit before s
    then (if payload_len_at s == max_chunk_len
    then option_map (λ more. chunk_payload s ++ more) (payload_in n limit (k + 1) (before + max_chunk_len) (after_chunk s))
    else Some (chunk_payload s))
    else None

-- the payloads whose framings s begins with, numbered from k, each within the limit; at most n
unfoldable pub packets_in : ℕ → ℕ → ℕ → List ℕ → List (List ℕ)
packets_in zero limit k s = []
packets_in (suc n) limit k s =
    elim (payload_in (suc (limit / max_chunk_len)) limit k 0 s) [ None ↦ [] | Some p ↦ p ∷ packets_in n limit (next_sequence_id k p) (drop (length (framing k p)) s) ]

-- the payloads whose packets s begins with, numbered from k, each within the limit
abbrev pub packets : ℕ → ℕ → List ℕ → List (List ℕ)
packets limit k s = packets_in (length s) limit k s

-- the full chunks (16,777,215 bytes each) that can be taken at the start of s, at most n: the number of payload bytes up to their end, `before` included, and the bytes after them
unfoldable pub full_run : ℕ → ℕ → ℕ → ℕ → List ℕ → ℕ × List ℕ
full_run zero limit k before s = (before, s)
full_run (suc n) limit k before s =
    if has_chunk_of k limit before s && (payload_len_at s == max_chunk_len)
    then full_run n limit (k + 1) (before + max_chunk_len) (after_chunk s)
    else (before, s)

-- the bytes after the packets
abbrev pub after_packets : ℕ → ℕ → List ℕ → List ℕ
after_packets limit k s = drop (length (framings k (packets limit k s))) s

-- why no packet follows: the fault of the first chunk that can't be taken; None if only bytes are missing
abbrev pub packet_fault : ℕ → ℕ → List ℕ → Option PacketCodecError
packet_fault limit k s =
    let run = full_run (length (after_packets limit k s)) limit (sequence_id_after k (packets limit k s)) 0 (after_packets limit k s) in
    chunk_fault limit run.0 run.1
