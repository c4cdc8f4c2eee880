use Rattle.events_replaced.specs.XaTransactionStates.{state_of}
use Rattle.events_replaced.proofs.IndifferentLemmas.{closed_by, passes_at_once}
use Rattle.events_replaced.proofs.xa_transactions.XaTransactions.passes_at_once.Goals as goal

pub returns-then-not-self : goal.returns-then-not-self
returns-then-not-self c = λ yes. passes_at_once (state_of c.args.self.now) c.args.event.now c.requires (closed_by c.args.self.now c.if-not-self.true) (rw c.is_indifferent.ensures at yes)
