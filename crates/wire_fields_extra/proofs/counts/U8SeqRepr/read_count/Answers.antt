use Rattle.std.proofs.Common.{◌∙◌}
use Rattle.wire_buf.proofs.NumberLemmas.{byte_reads}
use Rattle.wire_fields_extra.proofs.counts.U8SeqRepr.read_count.Goals as goal

pub returns-clause-ok : goal.returns-clause-ok
returns-clause-ok c = let e = c.in-Some.ensures.some in byte_reads _ _ _ e.room (c.from.ensures ∙ e.value_is) e.rest
