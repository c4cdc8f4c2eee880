use Rattle.std.proofs.Common.{◌≡◌, ◌≤◌, ◌+◌, ◌*◌, ◌%◌, ◌++◌, length, drop, ◌-◌}
use Rattle.wire_packets.specs.Framing.{max_chunk_len, chunks}
use Rattle.wire_packets.proofs.framing.packet_to_chunks.Given as goal

abbrev pub invariant-loop-i : goal.invariant-loop-i
invariant-loop-i l = record {
  rest : l.rest ≡ drop (l.i * max_chunk_len) l.src;
  number : l.number ≡ (l.id + l.i) % 256;
  written : l.dst.items ≡ l.fn.dst.items ++ chunks max_chunk_len l.id l.i l.src;
  room : length l.rest + 4 * (l.count - l.i) ≤ l.dst.spare;
}
