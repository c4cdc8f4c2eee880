use Rattle.changes_writers.proofs.Utf8LawLemmas.{string_utf8}
use Rattle.changes_writers.proofs.laws.strings_are_utf8.Goals as goal

pub returns : goal.returns
returns c = string_utf8
