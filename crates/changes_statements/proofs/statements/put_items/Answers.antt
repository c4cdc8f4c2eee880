use Rattle.std.proofs.Common.{◌≡◌, length, arith, rules}
use Rattle.changes_statements.proofs.StatementLemmas.{all_items, no_items}
use Rattle.changes_statements.proofs.statements.put_items.Goals as goal

pub loop-index-init : goal.loop-index-init
loop-index-init c = no_items _ _ _ _

pub loop-index-preserved : goal.loop-index-preserved
loop-index-preserved c = c.in_ok-is_first.ensures.text _ c.loop-index.invariant

pub returns-clause-text : goal.returns-clause-text
returns-clause-text c =
    let whole : c.loop-index.index ≡ length c.args.table.now.columns.items = search (arith, rules) in
    all_items _ _ _ c.loop-index.index _ _ _ whole c.loop-index.invariant
