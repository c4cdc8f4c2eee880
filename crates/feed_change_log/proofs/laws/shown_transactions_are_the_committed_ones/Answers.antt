use Rattle.feed_change_log.proofs.LogLemmas.{shown_are_committed, file_shows_committed}
use Rattle.feed_change_log.proofs.laws.shown_transactions_are_the_committed_ones.Goals as goal

pub returns-clause-events : goal.returns-clause-events
returns-clause-events c = shown_are_committed

pub returns-clause-file : goal.returns-clause-file
returns-clause-file c = file_shows_committed
