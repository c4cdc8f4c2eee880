use Rattle.feed_transactions.proofs.BetweenLemmas.{faults-like, shows-like, between-like}
use Rattle.feed_transactions.proofs.laws.what_came_before_does_not_matter.Goals as goal

pub returns-clause-fault : goal.returns-clause-fault
returns-clause-fault c = λ f p q l h a b. faults-like f p q l (between-like p q h a b)

pub returns-clause-shown : goal.returns-clause-shown
returns-clause-shown c = λ f p q l h a b. shows-like f p q l (between-like p q h a b)
