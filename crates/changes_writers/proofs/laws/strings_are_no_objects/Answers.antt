use Rattle.changes_writers.proofs.StringLawLemmas.{no_object}
use Rattle.changes_writers.proofs.laws.strings_are_no_objects.Goals as goal

pub returns : goal.returns
returns c = no_object
