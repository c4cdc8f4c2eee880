use Rattle.std.proofs.Common.{◌∙◌}
use Rattle.changes_lines.specs.ChangeLines.{with_ends, objects}
use Rattle.changes_lines.specs.WrittenLines.{end_of}
use Rattle.changes_lines.proofs.WriteLemmas.{puts_error, no_change_yet, next_change, one_more_change, change_failed, all_changes, none_of}
use Rattle.changes_lines.proofs.lines.write_changes.Goals as goal

pub loop-rows-init : goal.loop-rows-init
loop-rows-init g c = λ xs has. no_change_yet c.args.origin.now c.args.ends xs _ _ c.texts-texts.result c.changes-left.result.now (c.changes-left.ensures ∙ has.rows) has.some (c.texts-texts.ensures xs has)

pub returns-in_err-write_change : goal.returns-in_err-write_change
returns-in_err-write_change g c = λ xs has.
    let w = c.loop-rows.invariant xs has in
    let n = next_change c.loop-rows.texts c.in-Some.rows.now c.loop-rows.left.now c.in-Some.after.now w.left w.rows_are c.in-Some.ensures.cases.0 w.some w.texts_are in
    puts_error _ _ _ _ _ (with_ends (end_of c.args.ends.each) c.args.ends.last.now (objects c.args.origin.now xs)) _ _ c.from_residual.ensures
    (change_failed c.args.origin.now c.args.ends xs _ _ _ _ _ c.loop-rows.texts c.in-Some.rows.now c.loop-rows.left.now c.in-Some.after.now _ _ w n (c.in_err-write_change.ensures.text n.change _ n.count_is n.texts_are))

pub loop-rows-preserved : goal.loop-rows-preserved
loop-rows-preserved g c = λ xs has.
    let w = c.loop-rows.invariant xs has in
    let n = next_change c.loop-rows.texts c.in-Some.rows.now c.loop-rows.left.now c.in-Some.after.now w.left w.rows_are c.in-Some.ensures.cases.0 w.some w.texts_are in
    one_more_change c.args.origin.now c.args.ends xs _ _ _ _ _ _ c.loop-rows.texts _ c.in-Some.rows.now c.loop-rows.left.now c.in-Some.after.now w n (c.in_ok-write_change.ensures.text n.change _ n.count_is n.texts_are) (c.in_ok-write_change.ensures.left n.change _ n.count_is n.texts_are)

pub returns : goal.returns
returns g c = λ xs has. all_changes c.args.origin.now c.args.ends xs _ _ _ _ c.loop-rows.texts c.loop-rows.left.now (c.loop-rows.invariant xs has) (none_of c.loop-rows.left.now c.in_default.ensures.cases)
