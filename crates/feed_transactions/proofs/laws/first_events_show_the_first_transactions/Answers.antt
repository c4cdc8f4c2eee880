use Rattle.feed_transactions.proofs.RuleLemmas.{shown-append}
use Rattle.feed_transactions.proofs.laws.first_events_show_the_first_transactions.Goals as goal

pub returns : goal.returns
returns c = shown-append
