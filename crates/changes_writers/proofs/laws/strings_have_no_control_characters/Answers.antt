use Rattle.changes_writers.proofs.StringLawLemmas.{string_printable}
use Rattle.changes_writers.proofs.laws.strings_have_no_control_characters.Goals as goal

pub returns : goal.returns
returns c = string_printable
