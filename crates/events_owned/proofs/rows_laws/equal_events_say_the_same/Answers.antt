use Rattle.events_owned.proofs.EqualLemmas.{same_kind_decides}
use Rattle.events_owned.proofs.rows_laws.equal_events_say_the_same.Goals as goal

pub returns : goal.returns
returns g c = same_kind_decides
