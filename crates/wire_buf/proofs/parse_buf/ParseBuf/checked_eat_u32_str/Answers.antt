use Rattle.wire_buf.specs.Numbers.{IsLittle}
use Rattle.wire_buf.proofs.NumberLemmas.{little_reads}
use Rattle.wire_buf.proofs.StringLemmas.{Reads-counted}
use Rattle.wire_buf.proofs.parse_buf.ParseBuf.checked_eat_u32_str.Goals as goal

pub returns-clause-some : goal.returns-clause-some
returns-clause-some c =
    let b = c.in_ok-length.ensures.some in
    let e = c.in_ok-bytes.ensures.some in
    Reads-counted (IsLittle 4) _ _ _ _ _ (little_reads 4 _ _ _ b.room b.value_is b.rest) e.room e.value_is e.rest
