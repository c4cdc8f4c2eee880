use Rattle.std.proofs.Common.{rules}
use Rattle.std.proofs.lemmas.Result.{IfOk-from_err}
use Rattle.feed_text.specs.Buffers.{text_in}
use Rattle.feed_text.proofs.QuoteLemmas.{kept_more}
use Rattle.feed_text.proofs.BufferLemmas.{prefix_quoted, all_quoted}
use Rattle.feed_text.proofs.buffer.TextBuffer.put_many.Goals as goal

pub loop-rest-preserved : goal.loop-rest-preserved
loop-rest-preserved g c =
    let h = c.loop-rest.invariant in
    record {
      written = prefix_quoted _ (text_in c.loop-rest.self) _ c.loop-rest.rest.now _ _ _ h.written c.split_at.ensures.front c.split_at.ensures.back c.in_ok-put_piece.ensures.ok;
      kept = kept_more _ (text_in c.loop-rest.self) _ _ h.kept c.in_ok-put_piece.ensures.ok;
    }

pub returns-clause-ok : goal.returns-clause-ok
returns-clause-ok g c = all_quoted _ (text_in c.loop-rest.self) c.loop-rest.rest.now c.args.bytes.now _ c.loop-rest.invariant.written (search rules) c.in_ok-put.ensures.ok

pub returns-in_err-put_piece-clause-ok : goal.returns-in_err-put_piece-clause-ok
returns-in_err-put_piece-clause-ok g c = IfOk-from_err c.from_residual.result _ c.from_residual.ensures.0

pub returns-in_err-put-clause-ok : goal.returns-in_err-put-clause-ok
returns-in_err-put-clause-ok g c = IfOk-from_err c.from_residual-in_err-put.result _ c.from_residual-in_err-put.ensures.0
