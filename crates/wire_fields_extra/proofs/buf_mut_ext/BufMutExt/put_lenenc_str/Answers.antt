use Rattle.std.proofs.Common.{◌∙◌, ◌++◌, ap, arith}
use Rattle.std.proofs.lemmas.Result.{on_ok_weaker}
use Rattle.wire_fields.proofs.WritingLemmas.{lenenc_string_writes}
use Rattle.wire_fields_extra.proofs.buf_mut_ext.BufMutExt.put_lenenc_str.Goals as goal

pub returns-clause-ok : goal.returns-clause-ok
returns-clause-ok g c = on_ok_weaker _ (λ appended. lenenc_string_writes _ _ _ (omega arith)
    (appended ∙ ap (λ l. g.Self.BufMut.written c.args.self.now ++ (l ++ c.args.s.now)) c.lenenc_bytes-len.ensures.bytes)) c.put_both.ensures.ok
