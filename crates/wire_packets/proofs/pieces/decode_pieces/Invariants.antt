use Rattle.std.proofs.Common.{◌≡◌, ℕ, [], take}
use Rattle.wire_packets.specs.CodecState.{HasRead, codec_limit}
use Rattle.wire_packets.specs.StreamPieces.{vec_items, joined_pieces, Drains}
use Rattle.wire_packets.proofs.pieces.decode_pieces.Given as goal

abbrev pub invariant-loop-piece : goal.invariant-loop-piece
invariant-loop-piece l = record {
  drains : (k : ℕ) → HasRead l.fn.codec k [] [] [] [] → Drains l.codec k (joined_pieces (take l.piece-index l.pieces)) (vec_items l.packets.items) l.packet.items l.src.items;
  limit : codec_limit l.codec ≡ codec_limit l.fn.codec;
}
