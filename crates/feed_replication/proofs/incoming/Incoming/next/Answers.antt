use Rattle.std.proofs.Common.{[], Bool, Ok, refl, sym, subst}
use Rattle.wire_packets.specs.CodecState as state
use Rattle.wire_packets.specs.declared.packet_codec.PacketCodec.{PacketCodec}
use Rattle.feed_replication.proofs.IncomingLemmas.{lent}
use Rattle.feed_replication.proofs.incoming.Incoming.next.Goals as goal

pub returns-in-Some-clause-next : goal.returns-in-Some-clause-next
returns-in-Some-clause-next c = λ s ps st.
    lent c.args.self.now.codec c.decode_in_place.new.self s ps c.args.self.now.gathered.items c.args.self.now.received.items c.as_slice.result.now c.in-Some.payload.now st c.as_slice.ensures c.in-Some.ensures.between.0 c.in-Some.ensures.offset.1 (λ h. c.in-Some.ensures.state 1 s ps h)

pub returns-in-Ok-true-clause-next : goal.returns-in-Ok-true-clause-next
returns-in-Ok-true-clause-next c = λ s ps st.
    let now = subst (λ (k : PacketCodec). state.HasRead k 1 s ps c.args.self.now.gathered.items c.args.self.now.received.items) (sym (c.in_default.ensures.none refl)) st in
    subst (λ (b : Bool). state.Decodes c.decode.new.self 1 s ps [] c.decode.new.dst.items c.decode.new.src.items (Ok b)) c.in-Ok-true.field-0-test (c.in-Ok-true.ensures.state 1 s ps c.args.self.now.gathered.items [] now refl)

pub returns-in-Ok-false-clause-next : goal.returns-in-Ok-false-clause-next
returns-in-Ok-false-clause-next c = λ s ps st.
    let now = subst (λ (k : PacketCodec). state.HasRead k 1 s ps c.args.self.now.gathered.items c.args.self.now.received.items) (sym (c.in_default.ensures.none refl)) st in
    subst (λ (b : Bool). state.Decodes c.decode.new.self 1 s ps [] c.decode.new.dst.items c.decode.new.src.items (Ok b)) c.in-Ok-false.field-0-test (c.in-Ok-false.ensures.state 1 s ps c.args.self.now.gathered.items [] now refl)

pub returns-in-Err-clause-next : goal.returns-in-Err-clause-next
returns-in-Err-clause-next c = λ s ps st.
    let now = subst (λ (k : PacketCodec). state.HasRead k 1 s ps c.args.self.now.gathered.items c.args.self.now.received.items) (sym (c.in_default.ensures.none refl)) st in
    c.in-Err.ensures.state 1 s ps c.args.self.now.gathered.items [] now refl
