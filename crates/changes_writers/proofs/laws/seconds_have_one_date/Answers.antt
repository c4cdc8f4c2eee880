use Rattle.changes_writers.proofs.DateLawLemmas.{seconds_read}
use Rattle.changes_writers.proofs.laws.seconds_have_one_date.Goals as goal

pub returns : goal.returns
returns c = seconds_read
