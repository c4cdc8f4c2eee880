use Rattle.changes_resume.proofs.ResumePointLemmas.{one_point}
use Rattle.changes_resume.proofs.laws.resume_points_are_unique.Goals as goal

pub returns : goal.returns
returns c = one_point
