use Rattle.changes_character_sets.proofs.TextLemmas.{text_is_utf8}
use Rattle.changes_character_sets.proofs.laws.texts_are_utf8.Goals as goal

pub returns : goal.returns
returns c = text_is_utf8
