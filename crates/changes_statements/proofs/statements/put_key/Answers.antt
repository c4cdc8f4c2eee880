use Rattle.std.proofs.Common.{◌≡◌, ◌<◌, length, take, arith, rules}
use Rattle.std.proofs.Math.Seq.{take-length}
use Rattle.std.proofs.lemmas.List.{length-take-le}
use Rattle.changes_statements.proofs.StatementLemmas.{all_columns, first_columns, no_comparisons, one_comparison}
use Rattle.changes_statements.proofs.statements.put_key.Goals as goal

pub loop-place-init : goal.loop-place-init
loop-place-init c = no_comparisons _ _ _ _

pub loop-place-preserved : goal.loop-place-preserved
loop-place-preserved c =
    let key = c.args.table.now.key.items in
    let place = c.loop-place.place in
    let few : place < length key = search (arith, rules) in
    one_comparison _ _ _ (take place key) _ place c.index.result.now _ _ _ _ (length-take-le place key (omega (arith, few))) (first_columns key place c.index.result.now few c.index.ensures) c.in_ok-put_between.ensures c.in_ok-put_comparison.ensures.text c.loop-place.invariant

pub returns-clause-text : goal.returns-clause-text
returns-clause-text c =
    let key = c.args.table.now.key.items in
    let whole : c.loop-place.place ≡ length key = search (arith, rules) in
    all_columns _ _ _ _ key _ _ (rw whole (take-length key)) c.loop-place.invariant
