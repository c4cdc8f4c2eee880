use Rattle.wire_buf.proofs.EncodingLemmas.{IfErr-of_part}
use Rattle.wire_fields_extra.proofs.EitherLemmas.{read_left, read_right, lacks_left, lacks_right}
use Rattle.wire_fields_extra.proofs.either.EitherMyDeserialize.deserialize.Goals as goal

pub returns-in_err-value-in-Left-clause-err : goal.returns-in_err-value-in-Left-clause-err
returns-in_err-value-in-Left-clause-err g c =
    IfErr-of_part g.L.Fault.FieldFault.is_memory _ _ _ _ c.from_residual.ensures c.in_err-value-in-Left.ensures.err
    (lacks_left g.L.MyDeserialize.encodes g.R.MyDeserialize.encodes _ _ c.in-Left.is _)

pub returns-in_err-value-in-Right-clause-err : goal.returns-in_err-value-in-Right-clause-err
returns-in_err-value-in-Right-clause-err g c =
    IfErr-of_part g.L.Fault.FieldFault.is_memory _ _ _ _ c.from_residual-in_err-value-in-Right.ensures c.in_err-value-in-Right.ensures.err
    (lacks_right g.L.MyDeserialize.encodes g.R.MyDeserialize.encodes _ _ c.in-Right.is _)

pub returns-in_ok-value-in-Left-clause-ok : goal.returns-in_ok-value-in-Left-clause-ok
returns-in_ok-value-in-Left-clause-ok g c =
    read_left g.L.MyDeserialize.encodes g.R.MyDeserialize.encodes _ _ c.in-Left.is _ _ _ c.in_ok-value-in-Left.ensures.ok

pub returns-in_ok-value-in-Right-clause-ok : goal.returns-in_ok-value-in-Right-clause-ok
returns-in_ok-value-in-Right-clause-ok g c =
    read_right g.L.MyDeserialize.encodes g.R.MyDeserialize.encodes _ _ c.in-Right.is _ _ _ c.in_ok-value-in-Right.ensures.ok
