use Rattle.wire_buf.proofs.EncodingLemmas.{IfErr-of_part}
use Rattle.rows_event_body.proofs.FieldLemmas.{there_reads, there_lacks}
use Rattle.rows_event_body.proofs.optional_field.OptionalFieldMyDeserialize.deserialize.Goals as goal

pub returns-in_err-value-in-Some-clause-err : goal.returns-in_err-value-in-Some-clause-err
returns-in_err-value-in-Some-clause-err g c =
    IfErr-of_part g.T.Fault.FieldFault.is_memory _ _ _ _ c.from_residual.ensures c.in_err-value-in-Some.ensures.err
    (there_lacks g.T.MyDeserialize.encodes _ _ c.in-Some.is _)

pub returns-in_ok-value-in-Some-clause-ok : goal.returns-in_ok-value-in-Some-clause-ok
returns-in_ok-value-in-Some-clause-ok g c =
    there_reads g.T.MyDeserialize.encodes _ _ c.in-Some.is _ _ _ c.in_ok-value-in-Some.ensures.ok
