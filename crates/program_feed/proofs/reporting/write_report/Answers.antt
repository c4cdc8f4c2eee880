use Rattle.std.proofs.Common.{◌∙◌, ap, subst}
use Rattle.crc32.specs.Checksums.{crc32_of}
use Rattle.program_feed.specs.Endings.{IsVerdictEnding}
use Rattle.program_feed.proofs.CommandLemmas.{report_kept}
use Rattle.program_feed.proofs.reporting.write_report.Goals as goal

pub returns : goal.returns
returns g c = record {
  verdict = c.report-verdict.result;
  report = report_kept _ _ _ _ _ _ _ _ (ap g.W.Write.contents c.new-watched.ensures.inner) (c.report-verdict.ensures.report crc32_of (λ bytes r small fits h. h.says.met ∙ ap crc32_of h.shows)) c.new-flushed.ensures.kept;
  blamed = rw c.new-flushed.ensures.write_failed c.report-verdict.ensures.blamed;
  ending_is = subst (λ v. IsVerdictEnding v c.of_verdict.result) c.verdict.ensures c.of_verdict.ensures;
}
