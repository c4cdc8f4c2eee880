use Rattle.changes_statements.specs.TransactionTexts.{session}
use Rattle.changes_statements.proofs.TransactionLemmas.{wrote_undo}
use Rattle.changes_statements.proofs.transactions.write_undo.Goals as goal

pub returns : goal.returns
unfolding session
returns g c = λ texts has.
    wrote_undo texts c.args.kept.now c.is_empty.result _ _ _ _ _ _ _ has c.is_empty.ensures.none c.is_empty.ensures.some c.in_ok-write_if.ensures (c.in_ok-write_all.ensures texts has) c.in_ok-write_all-2.ensures.ok
