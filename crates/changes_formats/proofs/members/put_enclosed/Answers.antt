use Rattle.feed_text.specs.Buffers.{text_in}
use Rattle.changes_formats.proofs.MemberListLemmas.{enclosed}
use Rattle.changes_formats.proofs.members.put_enclosed.Goals as goal

pub returns : goal.returns
returns c = enclosed (text_in c.args.out.now) _ _ _ _ _ _ c.in_ok-put.ensures.ok c.in_ok-put_items.ensures c.in_ok-put-2.ensures.ok
