use Rattle.std.proofs.Common.{◌≡◌, ◌+◌, ◌-◌, suc, inl, map, ap, sym, add-one, arith}
use Rattle.std.proofs.lemmas.List.{map-append}
use Rattle.std.proofs.lemmas.Result.{IfOk-from_err}
use Rattle.wire_buf.proofs.EncodingLemmas.{Reads-is, Sequence-none, Sequence-more, Sequence-lacks, Sequence-lacks_more, IfErr-of_part, IfErr-of_same}
use Rattle.wire_fields_extra.proofs.SequenceLemmas.{next_failed, next_unstored}
use Rattle.wire_fields_extra.proofs.items.read_items.Goals as goal

pub returns-in_err-item-clause-err : goal.returns-in_err-item-clause-err
returns-in_err-item-clause-err g c =
    let t = g.T.MyDeserialize in
    let more : c.args.count ≡ (c.args.count - suc c.loop.counter) + suc c.loop.counter = omega arith in
    IfErr-of_part g.T.Fault.FieldFault.is_memory _ _ _ _ c.from_residual.ensures c.in_err-item.ensures.err
    (λ l. Sequence-lacks_more (t.encodes tt) _ _ _ _ more (Sequence-lacks (t.encodes tt) _ _ _ _ c.loop.invariant l))

pub loop-preserved : goal.loop-preserved
loop-preserved g c =
    let t = g.T.MyDeserialize in
    rw (c.in-Ok.ensures.items, add-one) (Reads-is (sym (map-append t.view _ _)) (Sequence-more (t.encodes tt) _ _ _ _ _ _ c.loop.invariant c.in_ok-item.ensures.ok))

pub returns-clause-ok : goal.returns-clause-ok
returns-clause-ok g c = let e : c.args.count ≡ c.loop.counter = omega arith in rw e c.loop.invariant

pub returns-in_err-item-clause-why : goal.returns-in_err-item-clause-why
returns-in_err-item-clause-why g c =
    let t = g.T.MyDeserialize in
    IfErr-of_same _ _ _ c.from_residual.ensures
    (next_failed (t.encodes tt) _ _ _ _ c.loop-test.true _ _ _ c.loop.invariant _ c.in_err-item.ensures.why)

pub returns-in_default-clause-why : goal.returns-in_default-clause-why
returns-in_default-clause-why g c =
    let t = g.T.MyDeserialize in
    next_unstored (t.encodes tt) _ _ _ _ c.loop-test.true _ _ _ c.loop.invariant _ _ _ c.in_ok-item.ensures.ok c.from.ensures

pub loop-init : goal.loop-init
loop-init g c =
    let t = g.T.MyDeserialize in
    Reads-is (sym (ap (map t.view) c.new-items.ensures.items)) (Sequence-none (t.encodes tt) c.args.buf.now.0.now)

pub returns-in_err-item-clause-ok : goal.returns-in_err-item-clause-ok
returns-in_err-item-clause-ok g c = IfOk-from_err c.from_residual.result _ c.from_residual.ensures.0

pub returns-in_default-clause-err : goal.returns-in_default-clause-err
returns-in_default-clause-err g c = inl (g.met.T.Fault.FieldFault.from_memory c.from.result c.from.ensures)
