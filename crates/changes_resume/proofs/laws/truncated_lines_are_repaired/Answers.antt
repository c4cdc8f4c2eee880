use Rattle.changes_resume.proofs.JsonLawLemmas.{truncated_kept, truncated_len}
use Rattle.changes_resume.proofs.laws.truncated_lines_are_repaired.Goals as goal

pub returns : goal.returns
returns c = record { len = truncated_len; lines = truncated_kept }
