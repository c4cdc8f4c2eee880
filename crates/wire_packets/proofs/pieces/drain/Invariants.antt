use Rattle.std.proofs.Common.{◌≡◌, ℕ, List, length}
use Rattle.wire_packets.specs.CodecState.{HasRead, codec_limit}
use Rattle.wire_packets.specs.StreamPieces.{vec_items}
use Rattle.wire_packets.proofs.pieces.drain.Given as goal

abbrev pub invariant-loop-is_whole : goal.invariant-loop-is_whole
invariant-loop-is_whole l = record {
  state : (k : ℕ) (s : List ℕ) → HasRead l.fn.codec k s (vec_items l.fn.packets.items) l.fn.packet.items l.fn.src.items → HasRead l.codec k s (vec_items l.packets.items) l.packet.items l.src.items;
  limit : codec_limit l.codec ≡ codec_limit l.fn.codec;
}

abbrev pub decreases-loop-is_whole : goal.decreases-loop-is_whole
decreases-loop-is_whole l = length l.src.items
