use Rattle.std.proofs.Common.{◌≡◌}
use Rattle.wire_buf.specs.declared.fault.WireFault.TheVariants.{Memory}
use Rattle.wire_buf.proofs.EncodingLemmas.{IfErr-of_part}
use Rattle.rows_event_body.proofs.FieldLemmas.{extra_reads, size_lacks, data_lacks}
use Rattle.rows_event_body.proofs.extra_data.ExtraDataMyDeserialize.deserialize.Goals as goal

pub returns-in_err-size-clause-err : goal.returns-in_err-size-clause-err
returns-in_err-size-clause-err c = IfErr-of_part (λ e. e ≡ Memory) _ _ _ _ c.from_residual.ensures c.in_err-size.ensures.err (size_lacks _)

pub returns-in_err-data-clause-err : goal.returns-in_err-data-clause-err
returns-in_err-data-clause-err c =
    IfErr-of_part (λ e. e ≡ Memory) _ _ _ _ c.from_residual-in_err-data.ensures c.in_err-data.ensures.err
    (λ l. data_lacks _ _ _ c.in_ok-size.ensures.ok (rw c.saturating_sub-len.ensures at l))

pub returns-clause-ok : goal.returns-clause-ok
returns-clause-ok c = extra_reads _ _ _ _ _ c.in_ok-size.ensures.ok (rw c.saturating_sub-len.ensures at c.in_ok-data.ensures.ok)
