use Rattle.wire_fields_extra.proofs.NullLemmas.{null_reads}
use Rattle.wire_fields_extra.proofs.null_bytes.NullBytesBytesRepr.deserialize.Goals as goal

pub returns-clause-ok : goal.returns-clause-ok
returns-clause-ok c =
    null_reads _ c.in-Some.at _ _ _ c.in-Some.ensures c.eat-bytes.ensures.value c.eat-bytes.ensures.rest c.skip.ensures
