use Rattle.std.proofs.Common.{sym, ap, map}
use Rattle.std.specs.Cow.{cow_slice_items}
use Rattle.wire_buf.proofs.EncodingLemmas.{Reads-is, IfErr-of_part, IfErr-of_lack}
use Rattle.wire_fields_extra.proofs.SequenceLemmas.{Lacks-count, Lacks-items, Reads-sequence, no_count, items_failed}
use Rattle.wire_fields_extra.proofs.seq.SeqMyDeserialize.deserialize.Goals as goal

pub returns-in_err-count-clause-err : goal.returns-in_err-count-clause-err
returns-in_err-count-clause-err g c =
    let t = g.T.MyDeserialize in
    let counts = g.U.SeqRepr.counts c.args.ctx in
    IfErr-of_lack g.T.Fault.FieldFault.is_memory _ _ _ c.from_residual.ensures (Lacks-count counts (t.encodes tt) _ c.in_err-count.ensures.err.0)

pub returns-in_err-items-clause-err : goal.returns-in_err-items-clause-err
returns-in_err-items-clause-err g c =
    let t = g.T.MyDeserialize in
    let counts = g.U.SeqRepr.counts c.args.ctx in
    IfErr-of_part g.T.Fault.FieldFault.is_memory _ _ _ _ c.from_residual-in_err-items.ensures c.in_err-items.ensures.err
    (Lacks-items counts (t.encodes tt) _ _ _ c.in_ok-count.ensures.ok)

pub returns-clause-ok : goal.returns-clause-ok
returns-clause-ok g c =
    let t = g.T.MyDeserialize in
    let counts = g.U.SeqRepr.counts c.args.ctx in
    Reads-is (ap (λ items. map t.view (cow_slice_items items)) (sym c.new.ensures))
    (Reads-sequence counts (t.encodes tt) _ _ _ _ _ c.in_ok-count.ensures.ok c.in_ok-items.ensures.ok)

pub returns-in_err-count-clause-why : goal.returns-in_err-count-clause-why
returns-in_err-count-clause-why g c =
    no_count (g.U.SeqRepr.counts c.args.ctx) g.T.Fault.From.from_gives _ _ _ _ c.from_residual.ensures c.in_err-count.ensures.err

pub returns-in_err-items-clause-why : goal.returns-in_err-items-clause-why
returns-in_err-items-clause-why g c =
    items_failed (g.U.SeqRepr.counts c.args.ctx) _ _ _ _ _ _ _ c.from_residual-in_err-items.ensures c.in_ok-count.ensures.ok c.in_err-items.ensures.why
