use Rattle.feed_text.specs.Buffers.{text_in}
use Rattle.feed_text.proofs.QuoteLemmas.{kept_more}
use Rattle.changes_cells.proofs.LongTextLemmas.{base64_more}
use Rattle.changes_cells.proofs.pieces.append_base64.Goals as goal

pub loop-rest-preserved : goal.loop-rest-preserved
loop-rest-preserved g c =
    let h = c.loop-rest.invariant in
    record {
      written = base64_more _ (text_in c.loop-rest.text) _ c.loop-rest.rest.now _ _ h.written c.loop-rest-test.true c.split_at.ensures.front c.split_at.ensures.back c.in_ok-put_writing.ensures.ok;
      kept = kept_more _ (text_in c.loop-rest.text) _ _ h.kept c.in_ok-put_writing.ensures.ok;
    }
