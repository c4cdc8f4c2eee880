use Rattle.std.proofs.Common.{[], ◌∙◌}
use Rattle.std.proofs.lemmas.List.{append-nil}
use Rattle.feed_checks.specs.LogFormat.{joined}
use Rattle.changes_statements.proofs.TransactionLemmas.{writes_four}
use Rattle.changes_statements.proofs.transactions.write_transaction.Goals as goal

pub returns : goal.returns
returns g c = λ texts opened.
    writes_four _ _ _ _ _ _ _ _ _ _ _ _ _ _ (joined texts) (c.bytes.ensures texts [] opened ∙ append-nil (joined texts)) c.in_ok-put.ensures.ok c.in_ok-write_if.ensures c.in_ok-put-2.ensures.ok c.in_ok-write_if-2.ensures
