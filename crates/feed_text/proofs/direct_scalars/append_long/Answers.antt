use Rattle.std.proofs.Common.{arith}
use Rattle.rows_jsonb.proofs.VarLenLemmas.{counted_whole}
use Rattle.feed_text.proofs.DirectLemmas.{string_written}
use Rattle.feed_text.proofs.direct_scalars.append_long.Goals as goal

pub returns-clause-ok : goal.returns-clause-ok
returns-clause-ok g c = string_written _ c.args.bytes.now _ _ _ c.append_first.result (counted_whole c.args.bytes.now c.deserialize.new.buf.0.now c.in-Ok.len c.in-Ok.ensures.ok (omega arith)) c.append_first.ensures.utf8 c.append_first.ensures.ok
