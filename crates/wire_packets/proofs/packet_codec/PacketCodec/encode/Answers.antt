use Rattle.wire_packets.proofs.CodecStateLemmas.{before_streams}
use Rattle.wire_packets.proofs.packet_codec.PacketCodec.encode.Goals as goal

pub returns-then-src-self-clause-before : goal.returns-then-src-self-clause-before
returns-then-src-self-clause-before c h = before_streams _ h

pub returns-in_err-self-clause-before : goal.returns-in_err-self-clause-before
returns-in_err-self-clause-before c h = before_streams _ h

pub returns-clause-before : goal.returns-clause-before
returns-clause-before c h = before_streams _ h
