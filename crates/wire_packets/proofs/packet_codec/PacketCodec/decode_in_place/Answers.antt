use Rattle.std.proofs.Common.{refl}
use Rattle.wire_packets.proofs.CodecStateLemmas.{step_whole}
use Rattle.wire_packets.proofs.packet_codec.PacketCodec.decode_in_place.Goals as goal

pub returns-clause-state : goal.returns-clause-state
returns-clause-state c = λ k s ps st.
    let found = c.in_ok-len.ensures.some in
    step_whole c.args.self.now _ k s ps c.args.src.now c.in_ok-len.len _ st found.0 found.1 found.2 found.3 refl refl refl refl refl
