use Rattle.std.proofs.Common.{rules}
use Rattle.feed_text.proofs.DirectLemmas.{string_written, short_counted}
use Rattle.feed_text.proofs.direct_scalars.append_counted.Goals as goal

pub returns-clause-ok : goal.returns-clause-ok
returns-clause-ok g c = string_written _ c.args.bytes.now _ _ _ c.append_first.result (short_counted c.args.bytes.now c.split_at.result.0.now c.split_at.result.1.now c.from-len.result (search rules) c.if-bytes-ge128.false c.split_at.ensures.front c.split_at.ensures.back c.from-len.ensures c.if-rest-len.false) c.append_first.ensures.utf8 c.append_first.ensures.ok
