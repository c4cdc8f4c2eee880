use Rattle.changes_laws.proofs.HeadReadLemmas.{transaction_read}
use Rattle.changes_laws.proofs.laws.transactions_show_their_origin.Goals as goal

pub returns : goal.returns
returns c = transaction_read
