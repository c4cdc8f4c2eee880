use Rattle.std.proofs.Common.{◌≡◌, length, ap, arith, rules}
use Rattle.std.specs.List.{range_with_len}
use Rattle.std.proofs.lemmas.List.FromFn.{length-range_with_len}
use Rattle.changes_statements.proofs.StatementLemmas.{all_columns, no_comparisons, one_comparison, range_push}
use Rattle.changes_statements.proofs.statements.put_all_columns.Goals as goal

pub loop-index-init : goal.loop-index-init
loop-index-init c = no_comparisons _ _ _ _

pub loop-index-preserved : goal.loop-index-preserved
loop-index-preserved c =
    let index = c.loop-index.index in
    one_comparison _ _ _ (range_with_len 0 index) _ index index _ _ _ _ (length-range_with_len 0 index) (range_push index) c.in_ok-put_between.ensures c.in_ok-put_comparison.ensures.text c.loop-index.invariant

pub returns-clause-text : goal.returns-clause-text
returns-clause-text c =
    let whole : c.loop-index.index ≡ length c.args.table.now.columns.items = search (arith, rules) in
    all_columns _ _ _ _ _ _ _ (ap (range_with_len 0) whole) c.loop-index.invariant
