use Rattle.std.proofs.Common.{refl}
use Rattle.wire_packets.proofs.CodecStateLemmas.{before_streams}
use Rattle.wire_packets.proofs.packet_codec.PacketCodec.with_number.Goals as goal

pub returns-clause-before : goal.returns-clause-before
returns-clause-before c = before_streams _ (refl, refl)
