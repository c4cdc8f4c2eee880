use Rattle.std.proofs.Common.{refl, arith, take}
use Rattle.feed_text.proofs.BufferLemmas.{quoted_from, prefix_kept}
use Rattle.feed_text.proofs.buffer.TextBuffer.truncate_and_put_long.Goals as goal

pub returns-in_default-clause-err : goal.returns-in_default-clause-err
returns-in_default-clause-err g c = (refl, prefix_kept _ c.args.start _ _ _ _ c.put_many.new.self.len c.requires.following c.truncate_and_put_quote.ensures.text c.in_default.ensures.kept (omega (arith, c.requires.room)))

pub returns-clause-ok : goal.returns-clause-ok
returns-clause-ok g c = quoted_from (take c.args.start c.args.self.now.bytes.items) _ _ c.args.bytes.now c.truncate_and_put_quote.ensures.text c.in-Ok.ensures.ok
