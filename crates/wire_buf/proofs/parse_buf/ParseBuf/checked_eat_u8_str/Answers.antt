use Rattle.std.proofs.Common.{◌∙◌}
use Rattle.wire_buf.specs.Numbers.{IsLittle}
use Rattle.wire_buf.proofs.NumberLemmas.{byte_reads}
use Rattle.wire_buf.proofs.StringLemmas.{Reads-counted}
use Rattle.wire_buf.proofs.parse_buf.ParseBuf.checked_eat_u8_str.Goals as goal

pub returns-clause-some : goal.returns-clause-some
returns-clause-some c =
    let b = c.in_ok-length.ensures.some in
    let e = c.in_ok-bytes.ensures.some in
    Reads-counted (IsLittle 1) _ _ _ _ _ (byte_reads c.from.result _ _ b.room (c.from.ensures ∙ b.value_is) b.rest) e.room e.value_is e.rest
