use Rattle.std.proofs.Common.{ap, ◌∙◌}
use Rattle.changes_lines.specs.RecordedLines.{members_from}
use Rattle.changes_lines.specs.WrittenLines.{resume_in}
use Rattle.library_log.proofs.WholeTexts.{is_whole}
use Rattle.library_log.proofs.shown.lines_of.Goals as goal

pub returns-in-Ok-Ok-clause-lines : goal.returns-in-Ok-Ok-clause-lines
returns-in-Ok-Ok-clause-lines c = λ t empty none done.
    let b = c.in_ok-begin.ensures.ok t done in
    record {
      gtid = b.gtid;
      is = b.is;
      text_is = λ xs has. (
          let put = rw c.in-Ok-Ok.is-0 at (c.write-written.ensures.text c.args.file.now b.gtid (members_from (resume_in c.args.lines.now) c.args.newest.now) t xs b.begun has) in
          let rest = rw c.in-Ok-Ok.is-1 at c.write_all-rest.ensures.ok in
          rw c.in_ok-begin.ensures.kept at (ap (λ v. v.items) c.into_inner.ensures ∙ is_whole _ _ _ _ _ _ put.bytes (ap (λ v. v.items) c.new-writer.ensures.inner ∙ empty) none put.written put.joined rest));
    }
