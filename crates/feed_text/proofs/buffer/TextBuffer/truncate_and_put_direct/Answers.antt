use Rattle.std.proofs.Common.{take, sym, arith}
use Rattle.std.proofs.lemmas.List.{append-nil}
use Rattle.feed_text.proofs.BufferLemmas.{prefix_kept}
use Rattle.feed_text.proofs.buffer.TextBuffer.truncate_and_put_direct.Goals as goal

pub returns-in_default-clause-no : goal.returns-in_default-clause-no
returns-in_default-clause-no g c = λ h. prefix_kept _ c.args.start _ _ _ _ c.write_document.new.out.len c.requires.following (sym (append-nil (take c.args.start c.args.self.now.bytes.items))) c.in_default.ensures.kept (omega (arith, c.requires.room))
