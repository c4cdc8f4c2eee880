use Rattle.changes_laws.proofs.StringGrammarLemmas.{string_is}
use Rattle.changes_laws.proofs.laws.strings_have_their_characters.Goals as goal

pub returns : goal.returns
returns c = string_is
