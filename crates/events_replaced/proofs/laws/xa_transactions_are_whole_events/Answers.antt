use Rattle.events_replaced.proofs.XaWholeLemmas.{nothing_kept, taken_whole}
use Rattle.events_replaced.proofs.laws.xa_transactions_are_whole_events.Goals as goal

pub returns-clause-none : goal.returns-clause-none
returns-clause-none c = nothing_kept

pub returns-clause-taken : goal.returns-clause-taken
returns-clause-taken c = taken_whole
