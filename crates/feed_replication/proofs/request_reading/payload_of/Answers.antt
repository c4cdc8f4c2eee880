use Rattle.std.proofs.Common.{◌≡◌, Bool, true, [], None, Ok, refl, sym, ap, subst, ◌∙◌}
use Rattle.std.specs.Prelude.{Result}
use Rattle.wire_packets.specs.CodecState.{Decodes, codec_limit}
use Rattle.wire_packets.specs.declared.error.PacketCodecError.{PacketCodecError}
use Rattle.feed_replication.specs.RequestedPackets.{payload_of_packet}
use Rattle.feed_replication.proofs.RequestLemmas.{decoded, packet_whole, packet_more, packet_waits, packet_stops, left_none, left_some}
use Rattle.feed_replication.proofs.request_reading.payload_of.Goals.{else-is_whole-via-then-is_whole+else-is_empty, else-is_whole-via-else-is_whole}
use Rattle.feed_replication.proofs.request_reading.payload_of.Goals as goal

pub returns-then-is_empty-clause-ok : goal.returns-then-is_empty-clause-ok
returns-then-is_empty-clause-ok c =
    let d = decoded _ c.with_number-codec.result c.decode.new.self c.args.request.now _ _ _ _ _ c.decode.result c.with_number-codec.ensures.fresh c.with_number-codec.ensures.before c.new-src.ensures.items c.in_default.ensures.ok c.new-payload.ensures.items c.decode.ensures.state in
    let is : c.decode.result ≡ Ok true = c.in-Ok.is ∙ ap (λ (b : Bool). Ok b) c.if-is_whole.true in
    let w = subst (λ (r : Result Bool PacketCodecError). Decodes c.decode.new.self 0 c.args.request.now [] [] c.decode.new.dst.items c.decode.new.src.items r) is d in
    sym (packet_whole c.decode.new.self c.args.request.now c.decode.new.dst.items c.decode.new.src.items w (left_none c.decode.new.src.items c.is_empty.result c.is_empty.ensures c.if-is_empty.true))

pub returns-in-Ok-clause-ok : goal.returns-in-Ok-clause-ok
returns-in-Ok-clause-ok c =
    let d = decoded _ c.with_number-codec.result c.decode.new.self c.args.request.now _ _ _ _ _ c.decode.result c.with_number-codec.ensures.fresh c.with_number-codec.ensures.before c.new-src.ensures.items c.in_default.ensures.ok c.new-payload.ensures.items c.decode.ensures.state in
    let limit : codec_limit c.decode.new.self ≡ _ = c.decode.ensures.limit ∙ c.with_number-codec.ensures.fresh.limit_is in
    let none : payload_of_packet c.args.request.now ≡ None = elim c.else-is_whole.branch [
      | else-is_whole-via-then-is_whole+else-is_empty w ↦
          packet_more c.decode.new.self _ c.args.request.now c.decode.new.dst.items c.decode.new.src.items refl limit (subst (λ (r : Result Bool PacketCodecError). Decodes c.decode.new.self 0 c.args.request.now [] [] c.decode.new.dst.items c.decode.new.src.items r) (c.in-Ok.is ∙ ap (λ (b : Bool). Ok b) w.if-is_whole.true) d)
          (left_some c.decode.new.src.items w.is_empty.result w.is_empty.ensures w.if-is_empty.false)
      | else-is_whole-via-else-is_whole w ↦
          packet_waits c.decode.new.self _ c.args.request.now c.decode.new.dst.items c.decode.new.src.items refl limit (subst (λ (r : Result Bool PacketCodecError). Decodes c.decode.new.self 0 c.args.request.now [] [] c.decode.new.dst.items c.decode.new.src.items r) (c.in-Ok.is ∙ ap (λ (b : Bool). Ok b) w.if-is_whole.false) d)
    ] in
    sym none

pub returns : goal.returns
returns c =
    let d = decoded _ c.with_number-codec.result c.decode.new.self c.args.request.now _ _ _ _ _ c.decode.result c.with_number-codec.ensures.fresh c.with_number-codec.ensures.before c.new-src.ensures.items c.in_default.ensures.ok c.new-payload.ensures.items c.decode.ensures.state in
    let limit : codec_limit c.decode.new.self ≡ _ = c.decode.ensures.limit ∙ c.with_number-codec.ensures.fresh.limit_is in
    let w = subst (λ (r : Result Bool PacketCodecError). Decodes c.decode.new.self 0 c.args.request.now [] [] c.decode.new.dst.items c.decode.new.src.items r) c.in-Err-decode.is d in
    record { ok = sym (packet_stops (codec_limit c.decode.new.self) _ c.args.request.now c.decode.new.dst.items c.decode.new.src.items c.in-Err-decode.fault refl limit c.in_default-fault.not-Memory w); err = tt }
