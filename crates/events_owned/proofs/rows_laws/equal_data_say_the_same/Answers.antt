use Rattle.events_owned.proofs.EqualLemmas.{data_decide}
use Rattle.events_owned.proofs.rows_laws.equal_data_say_the_same.Goals as goal

pub returns : goal.returns
returns c = data_decide
