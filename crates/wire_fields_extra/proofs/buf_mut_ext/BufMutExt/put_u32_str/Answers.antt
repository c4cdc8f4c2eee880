use Rattle.std.proofs.Common.{◌≡◌, ◌∙◌, ◌++◌, ◌≤◌, length, ap, arith, rules}
use Rattle.std.proofs.lemmas.Result.{on_ok_weaker}
use Rattle.byteorder.specs.Endian.{little_bytes}
use Rattle.wire_fields.proofs.WritingLemmas.{counted_writes}
use Rattle.wire_fields_extra.proofs.buf_mut_ext.BufMutExt.put_u32_str.Goals as goal

pub returns-clause-ok : goal.returns-clause-ok
returns-clause-ok g c =
    let size : length c.truncated-text.result.now ≤ 4294967295 = c.truncated-text.ensures.size in
    let count : c.to_le_bytes.result ≡ little_bytes 4 (length c.truncated-text.result.now) = search rules in
    on_ok_weaker _ (λ appended. counted_writes 4 c.truncated-text.result.now _ _ _ c.truncated-text.ensures.value (omega (arith, size))
    (appended ∙ ap (λ l. g.Self.BufMut.written c.args.self.now ++ (l ++ c.truncated-text.result.now)) count)) c.put_both.ensures.ok
