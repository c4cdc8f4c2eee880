use Rattle.changes_laws.proofs.CellLawLemmas.{cells_law}
use Rattle.changes_laws.proofs.laws.cells_show_their_values.Goals as goal

pub returns : goal.returns
returns c = cells_law
