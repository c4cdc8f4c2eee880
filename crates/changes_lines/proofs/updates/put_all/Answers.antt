use Rattle.std.proofs.Common.{◌≡◌, ◌∷◌}
use Rattle.changes_lines.proofs.UpdateLemmas.{no_members, none_put_yet, one_more_put, all_were_put}
use Rattle.changes_lines.proofs.updates.put_all.Goals as goal

pub loop-member-init : goal.loop-member-init
loop-member-init c = λ table cells are. none_put_yet table c.args.text.now c.args.separator c.args.members.now cells _ are

pub loop-member-preserved : goal.loop-member-preserved
loop-member-preserved c = λ table cells are.
    let first : c.loop-member.left.now ≡ c.in-Some.member.now ∷ c.in-Some.after.now = c.in-Some.ensures.cases.0 in
    rw c.in_ok-separator.ensures.comma
    (one_more_put table c.args.text.now c.args.separator c.loop-member.separator c.in-Some.member.now c.in-Some.after.now cells _ _ _ (rw first at c.loop-member.invariant table cells are) (λ x h. c.in_ok-separator.ensures.text table x h))

pub returns : goal.returns
returns c = λ table cells are.
    let none = no_members c.loop-member.left.now c.in_default.ensures.cases in
    all_were_put table c.args.text.now c.args.separator c.loop-member.separator cells _ _ (rw none at c.loop-member.invariant table cells are)
