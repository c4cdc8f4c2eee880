use Rattle.wire_packets.proofs.CodecStateLemmas.{before_streams}
use Rattle.wire_packets.proofs.packet_codec.PacketCodec.reset_seq_id.Goals as goal

pub returns-clause-before : goal.returns-clause-before
returns-clause-before c h = before_streams _ h
