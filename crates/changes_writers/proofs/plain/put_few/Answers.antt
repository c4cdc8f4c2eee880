use Rattle.std.proofs.Common.{◌∙◌, sym, arith, rules}
use Rattle.changes_writers.proofs.PlainLemmas.{one_more_passes, one_more_written}
use Rattle.changes_writers.proofs.plain.put_few.Goals as goal

pub loop-byte-preserved : goal.loop-byte-preserved
loop-byte-preserved c =
    let h = c.loop-byte.invariant in
    record {
      end = omega (arith, h.end, c.put_byte-end.ensures.end);
      plain = one_more_passes c.loop-byte.byte-index c.args.bytes.now h.plain (search rules) (sym c.is_plain.ensures ∙ c.if-not-is_plain.false);
      written = one_more_written c.loop-byte.byte-index _ _ _ c.args.bytes.now (search rules) h.written c.put_byte-end.ensures.text;
    }
