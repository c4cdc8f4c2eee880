use Rattle.std.proofs.Common.{◌++◌, ◌∙◌, ap, arith}
use Rattle.wire_fields.proofs.WritingLemmas.{lenenc_writes}
use Rattle.wire_fields_extra.proofs.buf_mut_ext.BufMutExt.put_lenenc_int.Goals as goal

pub returns-clause-ok : goal.returns-clause-ok
returns-clause-ok g c =
    lenenc_writes _ _ _ (omega arith)
    (c.in_ok-put_slice.ensures.ok ∙ ap (λ l. g.Self.BufMut.written c.args.self.now ++ l) c.lenenc_bytes-len.ensures.bytes)
