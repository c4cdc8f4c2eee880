use Rattle.wire_packets.proofs.PacketLemmas.{prefix_of_packets}
use Rattle.mysql_wire.proofs.packet_laws.packets_are_longest.Goals as goal

pub returns : goal.returns
returns c = λ limit k s ps r all is. (_, prefix_of_packets limit k s ps r all is)
