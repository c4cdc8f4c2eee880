use Rattle.std.proofs.Common.{◌≡◌, ℕ, ◌≤◌, ◌++◌, List, length, None}
use Rattle.wire_packets.specs.CodecState.{HasRead, codec_limit, codec_fault}
use Rattle.wire_packets.proofs.CodecStateLemmas.{Gathered}
use Rattle.wire_packets.proofs.packet_codec.PacketCodec.decode.Given as goal

abbrev pub invariant-loop-len : goal.invariant-loop-len
invariant-loop-len l = record {
  state : (k : ℕ) (s : List ℕ) (ps : List (List ℕ)) (g d : List ℕ) → HasRead l.fn.self k s ps g l.fn.src.items → l.fn.dst.items ≡ d ++ g → Gathered l.self k s ps d l.dst.items l.src.items;
  limit : codec_limit l.self ≡ codec_limit l.fn.self;
  not_longer : length l.src.items ≤ length l.fn.src.items;
  no_fault : codec_fault l.self ≡ None;
}

abbrev pub decreases-loop-len : goal.decreases-loop-len
decreases-loop-len l = length l.src.items
