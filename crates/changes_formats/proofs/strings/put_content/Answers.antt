use Rattle.feed_text.specs.Buffers.{text_in}
use Rattle.changes_formats.proofs.EnvelopeTextLemmas.{piece_more}
use Rattle.changes_formats.proofs.strings.put_content.Goals as goal

pub loop-rest-preserved : goal.loop-rest-preserved
loop-rest-preserved c = piece_more 3072 (text_in c.loop-rest.out) _ _ c.loop-rest.rest.now _ _ c.split_at.ensures.front c.split_at.ensures.back c.in_ok-put_writing.ensures.ok c.loop-rest.invariant
