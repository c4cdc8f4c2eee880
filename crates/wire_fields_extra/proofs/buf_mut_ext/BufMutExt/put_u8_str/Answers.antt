use Rattle.std.proofs.Common.{◌∙◌, ◌++◌, ◌≤◌, length, ap, arith}
use Rattle.std.proofs.lemmas.Result.{on_ok_weaker}
use Rattle.wire_fields.proofs.WritingLemmas.{counted_writes, byte_counted}
use Rattle.wire_fields_extra.proofs.buf_mut_ext.BufMutExt.put_u8_str.Goals as goal

pub returns-clause-ok : goal.returns-clause-ok
returns-clause-ok g c =
    let size : length c.truncated-text.result.now ≤ 255 = c.truncated-text.ensures.size in
    on_ok_weaker _ (λ appended. counted_writes 1 c.truncated-text.result.now _ _ _ c.truncated-text.ensures.value (omega (arith, size))
    (appended ∙ ap (λ l. g.Self.BufMut.written c.args.self.now ++ (l ++ c.truncated-text.result.now)) (byte_counted (length c.truncated-text.result.now) size))) c.put_both.ensures.ok
