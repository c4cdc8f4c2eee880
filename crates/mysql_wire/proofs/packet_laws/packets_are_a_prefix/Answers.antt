use Rattle.std.proofs.Common.{length}
use Rattle.wire_packets.proofs.PacketLemmas.{packets_in-sound}
use Rattle.mysql_wire.proofs.packet_laws.packets_are_a_prefix.Goals as goal

pub returns : goal.returns
returns c = λ limit k s h. packets_in-sound (length s) limit k s h
