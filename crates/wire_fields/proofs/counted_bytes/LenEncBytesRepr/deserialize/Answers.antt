use Rattle.wire_buf.proofs.StringLemmas.{Reads-counted}
use Rattle.wire_buf.specs.Numbers.{IsLenenc}
use Rattle.wire_fields.specs.IntFaults.{lenenc_fault}
use Rattle.wire_fields.proofs.TextLemmas.{count_failed, count_short}
use Rattle.wire_fields.proofs.counted_bytes.LenEncBytesRepr.deserialize.Goals as goal

pub returns-in_err-length-clause-err : goal.returns-in_err-length-clause-err
returns-in_err-length-clause-err c = count_failed IsLenenc lenenc_fault _ _ _ c.from_residual.ensures c.in_err-length.ensures.err

pub returns-in_default-clause-err : goal.returns-in_default-clause-err
returns-in_default-clause-err c =
    count_short IsLenenc lenenc_fault _ _ _ c.in_ok-length.ensures.ok c.in_default.ensures.none.missing

pub returns-clause-ok : goal.returns-clause-ok
returns-clause-ok c =
    let e = c.in-Some.ensures.some in
    Reads-counted IsLenenc _ _ _ _ _ c.in_ok-length.ensures.ok e.room e.value_is e.rest
