use Rattle.changes_walks.proofs.AscendingLemmas.{selects_the_same}
use Rattle.changes_walks.proofs.laws.filters_select_by_the_same_positions.Goals as goal

pub returns : goal.returns
returns c = λ f start stop ts none_after none_up_to rises starts. selects_the_same f start stop ts none_after none_up_to rises starts
