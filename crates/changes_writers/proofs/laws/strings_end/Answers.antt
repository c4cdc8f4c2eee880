use Rattle.changes_writers.proofs.StringLawLemmas.{strings_read}
use Rattle.changes_writers.proofs.laws.strings_end.Goals as goal

pub returns : goal.returns
returns c = strings_read
