use Rattle.wire_buf.proofs.NumberLemmas.{byte_reads}
use Rattle.wire_fields.proofs.byte.U8IntRepr.deserialize.Goals as goal

pub returns-clause-ok : goal.returns-clause-ok
returns-clause-ok c = byte_reads _ _ _ c.requires c.eat_u8.ensures.value c.eat_u8.ensures.rest
