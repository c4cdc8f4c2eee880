use Rattle.wire_fields.proofs.TextLemmas.{cut_writes}
use Rattle.wire_fields.proofs.plain_bytes.BareBytesBytesRepr.serialize.Goals as goal

pub returns-clause-ok : goal.returns-clause-ok
returns-clause-ok g c = cut_writes _ _ c.args.text.now _ _ c.min.ensures c.in_ok-extend_from_slice.ensures.items
