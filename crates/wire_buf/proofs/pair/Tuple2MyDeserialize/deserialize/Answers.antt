use Rattle.std.proofs.Common.{inl, inr}
use Rattle.wire_buf.proofs.EncodingLemmas.{Lacks-both, Lacks-both_first, Reads-both, IfErr-of_part, IfErr-of_same}
use Rattle.wire_buf.proofs.pair.Tuple2MyDeserialize.deserialize.Goals as goal

pub returns-in_err-first-clause-err : goal.returns-in_err-first-clause-err
returns-in_err-first-clause-err g c =
    let a = g.A.MyDeserialize.encodes c.args.ctx.0 in let b = g.B.MyDeserialize.encodes c.args.ctx.1 in
    IfErr-of_part g.A.Fault.FieldFault.is_memory _ _ _ _ c.from_residual.ensures c.in_err-first.ensures.err (Lacks-both_first a b _)

pub returns-in_err-second-clause-err : goal.returns-in_err-second-clause-err
returns-in_err-second-clause-err g c =
    let a = g.A.MyDeserialize.encodes c.args.ctx.0 in let b = g.B.MyDeserialize.encodes c.args.ctx.1 in
    IfErr-of_part g.A.Fault.FieldFault.is_memory _ _ _ _ c.from_residual-in_err-second.ensures c.in_err-second.ensures.err
    (Lacks-both a b _ _ _ c.in_ok-first.ensures.ok)

pub returns-in_err-first-clause-why : goal.returns-in_err-first-clause-why
returns-in_err-first-clause-why g c = IfErr-of_same _ _ _ c.from_residual.ensures (inl c.in_err-first.ensures.why)

pub returns-in_err-second-clause-why : goal.returns-in_err-second-clause-why
returns-in_err-second-clause-why g c =
    IfErr-of_same _ _ _ c.from_residual-in_err-second.ensures
    (inr (record { value = g.A.MyDeserialize.view c.in_ok-first.first; after = _; begins = c.in_ok-first.ensures.ok.begins; holds = c.in_err-second.ensures.why }))

pub returns-clause-ok : goal.returns-clause-ok
returns-clause-ok g c =
    let a = g.A.MyDeserialize.encodes c.args.ctx.0 in let b = g.B.MyDeserialize.encodes c.args.ctx.1 in
    Reads-both a b _ _ _ _ _ c.in_ok-first.ensures.ok c.in_ok-second.ensures.ok
