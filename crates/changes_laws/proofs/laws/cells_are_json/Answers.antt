use Rattle.changes_laws.proofs.ValueLemmas.{cell_value}
use Rattle.changes_laws.proofs.laws.cells_are_json.Goals as goal

pub returns : goal.returns
returns c = cell_value
