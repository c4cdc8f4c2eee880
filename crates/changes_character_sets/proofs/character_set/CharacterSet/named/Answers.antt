use Rattle.std.proofs.Common.{ap, sym, ◌∙◌, Some}
use Rattle.std.specs.Prelude.{option_map}
use Rattle.changes_character_sets.specs.Collations.{SetView, named_set, set_named}
use Rattle.changes_character_sets.proofs.character_set.CharacterSet.named.Goals as goal

pub returns-in-Some : goal.returns-in-Some
unfolding named_set
returns-in-Some c = ap (λ (s : SetView). Some s) c.character_set.ensures ∙ ap (option_map set_named) (sym c.in-Some.is ∙ c.named.ensures)

pub returns-in-None : goal.returns-in-None
unfolding named_set
returns-in-None c = ap (option_map set_named) (sym c.in-None.is ∙ c.named.ensures)
