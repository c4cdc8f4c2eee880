use Rattle.wire_packets.proofs.PacketLemmas.{framings_apart}
use Rattle.mysql_wire.proofs.packet_laws.framings_are_uniquely_read.Goals as goal

pub returns : goal.returns
returns c = framings_apart
