use Rattle.feed_resume.proofs.CommitLemmas.{commit_in-commit_line, commit_in-some}
use Rattle.feed_resume.proofs.laws.commit_lines_are_read.Goals as goal

pub returns-clause-read : goal.returns-clause-read
returns-clause-read c = commit_in-commit_line

pub returns-clause-only : goal.returns-clause-only
returns-clause-only c = λ line position e. let h = commit_in-some line position e in (h.fits, h.is)
