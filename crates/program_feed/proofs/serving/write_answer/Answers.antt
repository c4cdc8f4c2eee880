use Rattle.std.proofs.Common.{ap, subst, inl, inr}
use Rattle.program_feed.specs.Endings.{IsServedEnding}
use Rattle.program_feed.proofs.CommandLemmas.{serves_kept, unused_kept}
use Rattle.program_feed.proofs.serving.write_answer.Goals as goal

pub returns-in-Err : goal.returns-in-Err
returns-in-Err g c = inl (record {
  verdict = c.in-Err.fault;
  cause = c.in-Err.ensures.err;
  kept = unused_kept g.W.Write.contents _ _ c.unused.ensures.writer;
  ending_is = c.of_verdict.ensures;
})

pub returns : goal.returns
returns g c = inr (record {
  request = c.in-Ok.request.items;
  whole = c.in-Ok.ensures.ok;
  served = c.answer-served.result;
  serves = λ asked is. serves_kept _ _ _ _ _ _ _ _ _ _ _ (ap g.W.Write.contents c.new-watched.ensures.inner) ((rw c.deref.ensures.value at c.answer-served.ensures.serves) asked is) c.new-flushed.ensures.kept;
  blamed = rw c.new-flushed.ensures.write_failed c.answer-served.ensures.blamed;
  ending_is = subst (λ s. IsServedEnding s c.of_served.result) c.served.ensures c.of_served.ensures;
})
