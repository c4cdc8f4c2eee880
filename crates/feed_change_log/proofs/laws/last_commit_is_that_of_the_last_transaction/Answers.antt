use Rattle.feed_transactions.specs.Checks.{fault_of}
use Rattle.feed_change_log.proofs.StopLemmas.{last_is_of_none}
use Rattle.feed_change_log.proofs.laws.last_commit_is_that_of_the_last_transaction.Goals as goal

pub returns : goal.returns
returns c = λ f l. last_is_of_none (fault_of f) l
