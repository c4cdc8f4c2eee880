use Rattle.std.proofs.Common.{sym, ◌∙◌}
use Rattle.library_log.proofs.shown.has_lines.Goals as goal

pub returns-then-has_changes : goal.returns-then-has_changes
returns-then-has_changes c = λ t done xs has. rw (sym (c.has_changes.ensures xs has) ∙ c.if-has_changes.true) (c.takes_header.ensures t (c.commit_header.ensures t done))
