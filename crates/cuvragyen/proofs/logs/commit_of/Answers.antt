use Rattle.std.proofs.Common.{ap, ◌∙◌}
use Rattle.cuvragyen.proofs.ExportLemmas.{header_there}
use Rattle.cuvragyen.proofs.logs.commit_of.Goals as goal

pub returns-clause-commit : goal.returns-clause-commit
returns-clause-commit c = rw c.in-Log.is (header_there _ _ _ c.in-Some.ensures.there (λ t taken.
    let is = c.in-Some.ensures.some t taken in
    (c.timestamp.ensures ∙ ap (λ h. h.timestamp) is, (c.server_id.ensures ∙ ap (λ h. h.server_id) is, c.log_pos.ensures ∙ ap (λ h. h.log_pos) is))))
