use Rattle.std.proofs.Common.{sym, subst}
use Rattle.std.specs.List.{AllZip}
use Rattle.rows_values.specs.RowValues.{SameCell}
use Rattle.rows_values.proofs.RowLemmas.{copies_more}
use Rattle.rows_values.proofs.rows.row.Row.clone.Goals as goal

pub loop-value-preserved : goal.loop-value-preserved
loop-value-preserved c =
    subst (AllZip SameCell _) (sym c.in_ok-push.ensures.items)
    (copies_more _ _ _ c.value-item.result _ c.loop-value-test.true c.value-item.is c.in_ok-copy_of.ensures c.loop-value.invariant)
