use Rattle.std.proofs.Common.{◌∙◌, ap, subst, inl, inr}
use Rattle.crc32.specs.Checksums.{crc32_of}
use Rattle.program_feed.specs.Endings.{IsVerdictEnding}
use Rattle.program_feed.proofs.CommandLemmas.{rehearses_kept, follows_kept, unused_kept}
use Rattle.program_feed.proofs.rehearsing.write_rehearsal.Goals as goal

pub returns-in-Err : goal.returns-in-Err
returns-in-Err g c = inl (record {
  verdict = c.in-Err.fault;
  cause = c.in-Err.ensures.err;
  kept = unused_kept g.W.Write.contents _ _ c.unused.ensures.writer;
  ending_is = c.of_verdict.ensures;
})

pub returns : goal.returns
returns g c = inr (record {
  log = c.in-Ok.binlog.items;
  whole = c.in-Ok.ensures.ok;
  verdict = c.rehearse-verdict.result;
  rehearses = rehearses_kept _ _ _ _ _ _ (ap g.W.Write.contents c.new-watched.ensures.inner) (rw c.deref.ensures.value at c.rehearse-verdict.ensures.run crc32_of (λ bytes r small fits h. h.says.met ∙ ap crc32_of h.shows)) c.new-flushed.ensures.kept;
  follows = λ f. follows_kept _ _ _ _ _ _ _ _ _ (ap g.W.Write.contents c.new-watched.ensures.inner) (rw c.deref.ensures.value at c.rehearse-verdict.ensures.follows crc32_of (λ bytes r small fits h. h.says.met ∙ ap crc32_of h.shows) f) c.new-flushed.ensures.kept;
  blamed = rw c.new-flushed.ensures.write_failed c.rehearse-verdict.ensures.blamed;
  ending_is = subst (λ v. IsVerdictEnding v c.of_verdict-2.result) c.verdict.ensures c.of_verdict-2.ensures;
})
