use Rattle.changes_laws.proofs.ValueEnds.{values_end}
use Rattle.changes_laws.proofs.laws.values_show_where_they_end.Goals as goal

pub returns : goal.returns
returns c = values_end
