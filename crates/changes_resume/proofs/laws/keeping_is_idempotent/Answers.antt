use Rattle.changes_resume.proofs.JsonLawLemmas.{kept_prefix, kept_again}
use Rattle.changes_resume.proofs.laws.keeping_is_idempotent.Goals as goal

pub returns : goal.returns
returns c = record { prefix = kept_prefix; again = kept_again }
