use Rattle.std.proofs.Common.{refl}
use Rattle.wire_buf.specs.Numbers.{IsLenenc}
use Rattle.wire_buf.proofs.StringLemmas.{Lacks-count, Lacks-counted, Reads-counted}
use Rattle.wire_buf.proofs.parse_buf.ParseBuf.checked_eat_lenenc_str.Goals as goal

pub returns-in_err-length-clause-none : goal.returns-in_err-length-clause-none
returns-in_err-length-clause-none c = rw c.from_residual.ensures (Lacks-count IsLenenc _ c.in_err-length.ensures.none.0, refl)

pub returns-in_err-bytes-clause-none : goal.returns-in_err-bytes-clause-none
returns-in_err-bytes-clause-none c =
    rw c.from_residual-in_err-bytes.ensures
    (Lacks-counted IsLenenc _ _ _ c.in_ok-length.ensures.some c.in_err-bytes.ensures.none.missing, refl)

pub returns-clause-some : goal.returns-clause-some
returns-clause-some c =
    let e = c.in_ok-bytes.ensures.some in
    Reads-counted IsLenenc _ _ _ _ _ c.in_ok-length.ensures.some e.room e.value_is e.rest
