use Rattle.std.proofs.Common.{◌++◌, ◌∙◌, ap, arith}
use Rattle.wire_fields.proofs.SevenLemmas.{varlen_writes}
use Rattle.wire_fields.proofs.varlen.VarLenIntRepr.serialize.Goals as goal

pub returns-clause-ok : goal.returns-clause-ok
returns-clause-ok g c = varlen_writes _ _ _ (omega arith)
    (c.in_ok-extend_from_slice.ensures.items ∙ ap (λ l. c.args.buf.now.items ++ l) c.varlen_bytes-len.ensures.bytes)
