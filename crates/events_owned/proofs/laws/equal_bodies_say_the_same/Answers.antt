use Rattle.events_owned.proofs.DataEquality.{bodies_decide}
use Rattle.events_owned.proofs.laws.equal_bodies_say_the_same.Goals as goal

pub returns : goal.returns
returns c = bodies_decide
