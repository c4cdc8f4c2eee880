use Rattle.std.proofs.Common.{ℕ, List, ◌∷◌, ◌++◌}
use Rattle.std.specs.Prelude.{codes, reverse}
use Rattle.changes_statements.proofs.TransactionLemmas.{kept_back}
use Rattle.changes_statements.proofs.transactions.keep_transaction.Goals as goal

pub returns : goal.returns
returns c = λ older texts has opened.
    let first = codes "COMMIT;\n" ∷ older in
    let all = reverse texts ++ first in
    kept_back c.args.heading.now texts older c.add-3.new.self (c.in_ok-add-3.ensures (codes "BEGIN;\n" ∷ all) (c.in_ok-add-2.ensures all (c.in_ok-add_all.ensures first texts (c.in_ok-add.ensures older has) opened)))
