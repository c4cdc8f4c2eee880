use Rattle.std.proofs.Common.{◌≡◌, List, ℕ, ◌++◌, length, min, refl, sym, arith, length-append}
use Rattle.std.proofs.lemmas.Result.{err_from_is_err_and}
use Rattle.wire_packets.specs.Framing.{max_chunk_len}
use Rattle.feed_replication.proofs.PacketLemmas.{within-none, within-next, cut-within, either-chunk, joined-parts, led-parts}
use Rattle.feed_replication.proofs.packets.put_packet.Goals as goal

pub returns-in_err-put_chunk-clause-fault : goal.returns-in_err-put_chunk-clause-fault
returns-in_err-put_chunk-clause-fault g c =
    let e = err_from_is_err_and c.from_residual.result c.from_residual.ensures.1 in
    let a : List ℕ = c.args.lead.now ++ c.split_at.result.0.now in
    let parts = led-parts _ c.args.lead.now c.args.body.now c.split_at.result.0.now c.split_at.result.1.now c.split_at.ensures.front c.split_at.ensures.back in
    let len : length (c.args.lead.now ++ c.split_at.result.0.now) ≡ min (length (c.args.lead.now ++ c.args.body.now)) max_chunk_len = omega (arith, c.split_at.ensures.front_len, c.min.ensures, c.requires, length-append c.args.lead.now c.split_at.result.0.now, length-append c.args.lead.now c.args.body.now) in
    rw (e.1, e.2) (cut-within c.args.number (c.args.lead.now ++ c.args.body.now) _ _ _ c.args.number (c.args.lead.now ++ c.args.body.now) a c.split_at.result.1.now (within-none c.args.number (c.args.lead.now ++ c.args.body.now) _ c.ranges.number.fits) parts (either-chunk (c.args.lead.now ++ c.args.body.now) a c.split_at.result.1.now parts len) _ _ c.in_err-put_chunk.ensures.fault)

pub loop-is_whole-init : goal.loop-is_whole-init
loop-is_whole-init g c =
    let a : List ℕ = c.args.lead.now ++ c.split_at.result.0.now in
    let parts = led-parts _ c.args.lead.now c.args.body.now c.split_at.result.0.now c.split_at.result.1.now c.split_at.ensures.front c.split_at.ensures.back in
    let len : length (c.args.lead.now ++ c.split_at.result.0.now) ≡ min (length (c.args.lead.now ++ c.args.body.now)) max_chunk_len = omega (arith, c.split_at.ensures.front_len, c.min.ensures, c.requires, length-append c.args.lead.now c.split_at.result.0.now, length-append c.args.lead.now c.args.body.now) in
    let k = within-next c.args.number (c.args.lead.now ++ c.args.body.now) _ _ _ c.args.number (c.args.lead.now ++ c.args.body.now) a c.split_at.result.1.now _ (within-none c.args.number (c.args.lead.now ++ c.args.body.now) _ c.ranges.number.fits) parts (either-chunk (c.args.lead.now ++ c.args.body.now) a c.split_at.result.1.now parts len) (sym (length-append c.args.lead.now c.split_at.result.0.now)) c.in_ok-put_chunk.ensures.ok in
    record { within = k.0; after = k.1 }

pub returns-in_err-put_chunk-2-clause-fault : goal.returns-in_err-put_chunk-2-clause-fault
returns-in_err-put_chunk-2-clause-fault g c =
    let e = err_from_is_err_and c.from_residual-in_err-put_chunk-2.result c.from_residual-in_err-put_chunk-2.ensures.1 in
    let a = c.split_at-in-loop-is_whole.result.0.now in
    let b = c.split_at-in-loop-is_whole.result.1.now in
    let parts = joined-parts _ c.loop-is_whole.rest.now a b c.split_at-in-loop-is_whole.ensures.front c.split_at-in-loop-is_whole.ensures.back in
    let len : length c.split_at-in-loop-is_whole.result.0.now ≡ min (length c.loop-is_whole.rest.now) max_chunk_len = omega (arith, c.split_at-in-loop-is_whole.ensures.front_len, c.min-in-loop-is_whole.ensures) in
    rw (e.1, e.2) (cut-within c.args.number (c.args.lead.now ++ c.args.body.now) _ _ _ c.loop-is_whole.number c.loop-is_whole.rest.now a b (c.loop-is_whole.invariant.within c.loop-is_whole-test.true) parts (either-chunk c.loop-is_whole.rest.now a b parts len) _ _ c.in_err-put_chunk-2.ensures.fault)

pub loop-is_whole-preserved : goal.loop-is_whole-preserved
loop-is_whole-preserved g c =
    let a = c.split_at-in-loop-is_whole.result.0.now in
    let b = c.split_at-in-loop-is_whole.result.1.now in
    let parts = joined-parts _ c.loop-is_whole.rest.now a b c.split_at-in-loop-is_whole.ensures.front c.split_at-in-loop-is_whole.ensures.back in
    let len : length c.split_at-in-loop-is_whole.result.0.now ≡ min (length c.loop-is_whole.rest.now) max_chunk_len = omega (arith, c.split_at-in-loop-is_whole.ensures.front_len, c.min-in-loop-is_whole.ensures) in
    let k = within-next c.args.number (c.args.lead.now ++ c.args.body.now) _ _ _ c.loop-is_whole.number c.loop-is_whole.rest.now a b _ (c.loop-is_whole.invariant.within c.loop-is_whole-test.true) parts (either-chunk c.loop-is_whole.rest.now a b parts len) refl c.in_ok-put_chunk-2.ensures.ok in
    record { within = k.0; after = k.1 }
