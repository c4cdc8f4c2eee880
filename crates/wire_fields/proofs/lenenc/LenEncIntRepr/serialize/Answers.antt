use Rattle.std.proofs.Common.{◌++◌, ◌∙◌, ap, arith}
use Rattle.wire_fields.proofs.WritingLemmas.{lenenc_writes}
use Rattle.wire_fields.proofs.lenenc.LenEncIntRepr.serialize.Goals as goal

pub returns-clause-ok : goal.returns-clause-ok
returns-clause-ok g c =
    lenenc_writes _ _ _ (omega arith)
    (c.in_ok-extend_from_slice.ensures.items ∙ ap (λ l. c.args.buf.now.items ++ l) c.lenenc_bytes-len.ensures.bytes)
