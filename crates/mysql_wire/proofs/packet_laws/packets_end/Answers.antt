use Rattle.wire_packets.proofs.PacketLemmas.{packets_of, fault_of_packets}
use Rattle.mysql_wire.proofs.packet_laws.packets_end.Goals as goal

pub returns : goal.returns
returns c = λ limit k s ps g u fault reads halts.
    (packets_of limit k s ps g u fault reads halts, fault_of_packets limit k s ps g u fault reads halts)
