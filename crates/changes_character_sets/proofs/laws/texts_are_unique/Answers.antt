use Rattle.changes_character_sets.proofs.TextLemmas.{one_text}
use Rattle.changes_character_sets.proofs.laws.texts_are_unique.Goals as goal

pub returns : goal.returns
returns c = one_text
