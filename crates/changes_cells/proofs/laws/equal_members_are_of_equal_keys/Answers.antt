use Rattle.changes_cells.proofs.KeyLemmas.{same_keys}
use Rattle.changes_cells.proofs.laws.equal_members_are_of_equal_keys.Goals as goal

pub returns : goal.returns
returns c = same_keys
