use Rattle.wire_packets.proofs.PacketLemmas.{framings_read}
use Rattle.mysql_wire.proofs.packet_laws.framings_are_read_back.Goals as goal

pub returns : goal.returns
returns c = framings_read
