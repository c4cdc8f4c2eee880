use Rattle.std.proofs.Common.{◌∙◌}
use Rattle.wire_fields.proofs.TextLemmas.{padded_writes}
use Rattle.wire_fields.proofs.plain_bytes.FixedLengthTextBytesRepr.serialize.Goals as goal

pub returns-clause-ok : goal.returns-clause-ok
returns-clause-ok g c =
    padded_writes _ _ _ _ c.args.text.now _ _ _ _ c.min.ensures c.in_ok-reserve.ensures.items c.in_ok-extend_from_slice.ensures.items c.extend_from_slice.new.self.ok.0 (c.len-end.ensures ∙ c.reserve.new.self.ok.0)
    c.in_ok-resize.ensures.items
