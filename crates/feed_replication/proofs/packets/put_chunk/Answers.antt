use Rattle.std.proofs.Common.{List, ℕ, take}
use Rattle.std.proofs.lemmas.Result.{IfOk-from_err, IfErr-weaker, on_ok_weaker, err_from_is_err_and}
use Rattle.feed_replication.proofs.PacketLemmas.{chunk-parts, both-written, first-cut, second-cut}
use Rattle.feed_replication.proofs.packets.put_chunk.Goals as goal

pub returns-in_err-put_all-clause-ok : goal.returns-in_err-put_all-clause-ok
returns-in_err-put_all-clause-ok g c = IfOk-from_err c.from_residual.result _ c.from_residual.ensures.0

pub returns-in_err-put_all-clause-fault : goal.returns-in_err-put_all-clause-fault
returns-in_err-put_all-clause-fault g c =
    let e = err_from_is_err_and c.from_residual.result c.from_residual.ensures.1 in
    let begun : List ℕ = take c.put_bytes-end.result c.put_bytes-end.new.text in
    let parts = chunk-parts c.args.number _ _ c.args.lead.now c.args.slice.now begun c.put_bytes-begin.ensures.text c.put_bytes-end.ensures.text c.chunk_header.ensures in
    rw (e.1, e.2) (first-cut _ _ begun c.args.slice.now _ _ _ parts c.in_err-put_all.ensures.fault)

pub returns-clause-ok : goal.returns-clause-ok
returns-clause-ok g c =
    let begun : List ℕ = take c.put_bytes-end.result c.put_bytes-end.new.text in
    let parts = chunk-parts c.args.number _ _ c.args.lead.now c.args.slice.now begun c.put_bytes-begin.ensures.text c.put_bytes-end.ensures.text c.chunk_header.ensures in
    on_ok_weaker c.put_all-2.result (λ w. both-written _ _ _ begun c.args.slice.now _ parts c.in_ok-put_all.ensures.ok w) c.put_all-2.ensures.ok

pub returns-clause-fault : goal.returns-clause-fault
returns-clause-fault g c =
    let begun : List ℕ = take c.put_bytes-end.result c.put_bytes-end.new.text in
    let parts = chunk-parts c.args.number _ _ c.args.lead.now c.args.slice.now begun c.put_bytes-begin.ensures.text c.put_bytes-end.ensures.text c.chunk_header.ensures in
    IfErr-weaker c.put_all-2.result _ _ (λ v p. second-cut _ _ _ begun c.args.slice.now _ _ v parts c.in_ok-put_all.ensures.ok p) c.put_all-2.ensures.fault
