use Rattle.std.proofs.Common.{◌≡◌, ◌∷◌, rules, arith, ◌<◌}
use Rattle.changes_lines.proofs.UpdateLemmas.{none_first_yet, one_more_first}
use Rattle.changes_lines.proofs.updates.put_unset.Goals as goal

pub loop-member-init : goal.loop-member-init
loop-member-init c = λ table cells are. none_first_yet table c.args.text.now c.args.column c.args.separator c.args.members.now cells _ are

pub loop-member-preserved : goal.loop-member-preserved
loop-member-preserved c = λ table cells are.
    let first : c.loop-member.left.now ≡ c.in-Some.member.now ∷ c.in-Some.after.now = c.in-Some.ensures.cases.0 in
    let less : c.in-Some.member.now.column < c.args.column = search (arith, rules) in
    rw c.in_ok-separator.ensures.comma
    (one_more_first table c.args.text.now c.args.column c.args.separator c.loop-member.separator c.in-Some.member.now c.in-Some.after.now cells _ _ _ (rw first at c.loop-member.invariant table cells are) less (λ x h. c.in_ok-separator.ensures.text table x h))
