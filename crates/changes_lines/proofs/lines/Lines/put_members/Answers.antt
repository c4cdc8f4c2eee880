use Rattle.std.proofs.Common.{List, ℕ, ◌++◌, ap, append_assoc, ◌∙◌}
use Rattle.std.proofs.lemmas.Result.{on_ok_weaker}
use Rattle.events_frames.specs.Headers.{event_header_of}
use Rattle.feed_transactions.specs.KeptGtids.{kept_gtid}
use Rattle.feed_text.specs.Buffers.{text_in}
use Rattle.changes_lines.specs.FactMembers.{resume_member}
use Rattle.changes_lines.specs.RecordedLines.{members_from, members_of}
use Rattle.changes_lines.specs.WrittenLines.{resume_in}
use Rattle.changes_lines.proofs.BeginLemmas.{begun_alone, begun_with_header}
use Rattle.changes_lines.proofs.lines.Lines.put_members.Goals as goal

pub returns-then-not-self-clause-ok : goal.returns-then-not-self-clause-ok
returns-then-not-self-clause-ok c =
    let resume = resume_in c.args.self.now in
    let members = members_of c.args.transaction.now in
    let mid = text_in c.put_origin.new.text in
    on_ok_weaker c.put_added.result (λ added t d. begun_alone _ c.args.file.now (members_from resume c.args.transaction.now) t (kept_gtid c.args.transaction.now.gtid) c.log_pos-position.result (text_in c.clear.new.self) mid c.if-not-self.true c.clear.ensures d.opened.gtid
    (c.log_pos-position.ensures ∙ ap (λ h. h.log_pos) (c.commit_header-header.ensures t d)) c.in_ok-put_origin.ensures
    (added ∙ ap (λ (l : List ℕ). l ++ members) c.in_ok-put.ensures.member ∙ append_assoc mid (resume_member resume) members)) c.put_added.ensures

pub returns-clause-ok : goal.returns-clause-ok
returns-clause-ok c =
    let resume = resume_in c.args.self.now in
    let members = members_of c.args.transaction.now in
    let mid = text_in c.put_origin-2.new.text in
    on_ok_weaker c.put_added-2.result (λ added t d. begun_with_header _ c.args.file.now (members_from resume c.args.transaction.now) t (event_header_of c.commit_header-header.result) (kept_gtid c.args.transaction.now.gtid) c.log_pos-position.result (text_in c.clear.new.self) (text_in c.put-2.new.text) mid c.if-not-self.false c.clear.ensures
    c.in_ok-put-2.ensures.ok (c.commit_header-header.ensures t d) d.opened.gtid (c.log_pos-position.ensures ∙ ap (λ h. h.log_pos) (c.commit_header-header.ensures t d)) c.in_ok-put_origin-2.ensures
    (added ∙ ap (λ (l : List ℕ). l ++ members) c.in_ok-put-3.ensures.member ∙ append_assoc mid (resume_member resume) members)) c.put_added-2.ensures
