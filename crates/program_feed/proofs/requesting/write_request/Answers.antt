use Rattle.std.proofs.Common.{ap, subst, inl, inr}
use Rattle.program_feed.specs.Endings.{IsVerdictEnding}
use Rattle.program_feed.proofs.CommandLemmas.{bytes_kept, unused_kept, error_cause, not_long}
use Rattle.program_feed.proofs.requesting.write_request.Goals as goal

pub returns-in-Err : goal.returns-in-Err
returns-in-Err g c = inl (record {
  error = c.in-Err.error;
  too_long = error_cause _ _ c.in-Err.ensures.too_long;
  kept = unused_kept g.W.Write.contents _ _ c.unused.ensures.writer;
  ending_is = c.of_request_error.ensures;
})

pub returns : goal.returns
returns g c = inr (record {
  short = not_long _ _ c.in-Ok.ensures.too_long;
  verdict = c.put-verdict.result;
  bytes = bytes_kept _ _ _ _ _ _ _ _ (ap g.W.Write.contents c.new-watched.ensures.inner) c.new-flushed.ensures.write_failed (rw (c.deref.ensures.value, c.in-Ok.ensures.packet) at c.put-verdict.ensures) c.new-flushed.ensures.kept;
  ending_is = subst (λ v. IsVerdictEnding v c.of_verdict.result) c.verdict.ensures c.of_verdict.ensures;
})
