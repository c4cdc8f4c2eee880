use Rattle.std.proofs.Common.{◌≡◌, ◌∷◌, ◌∙◌, sym, arith}
use Rattle.std.proofs.lemmas.Bool.{false≢true}
use Rattle.std.proofs.lemmas.Slice.Eq.{bytes_eq-Decides}
use Rattle.changes_lines.proofs.UpdateLemmas.{no_members, compares_none, compares_later, compares_same, compares_other}
use Rattle.changes_lines.proofs.updates.compare.Goals as goal

pub returns-in_default : goal.returns-in_default
returns-in_default c = λ table cells changed y are from column json is.
    let none = no_members c.args.members.now c.in_default.ensures.cases in
    rw none (compares_none table c.args.text.now y cells changed _ (rw none at are) is)

pub returns-then-member-column : goal.returns-then-member-column
returns-then-member-column c = λ table cells changed y are from column json is.
    let first : c.args.members.now ≡ c.in-Some.member.now ∷ c.in-Some.left.now = c.in-Some.ensures.cases.0 in
    rw first (compares_later table c.args.text.now y c.in-Some.member.now c.in-Some.left.now cells changed _ (rw first at are) (rw (← column) at from) (λ same. omega (arith, c.if-member-column.true, same, column)) is)

pub returns-then-eq : goal.returns-then-eq
returns-then-eq c = λ table cells changed y are from column json is.
    let first : c.args.members.now ≡ c.in-Some.member.now ∷ c.in-Some.left.now = c.in-Some.ensures.cases.0 in
    compares_same table c.args.text.now y c.in-Some.member.now c.in-Some.left.now cells changed c.value.result.now _ (rw first at are) (omega (arith, c.if-member-column.false, column)) (λ x h. c.value.ensures table x h) ((bytes_eq-Decides c.value.result.now c.args.after.now).0 (sym c.if-eq.ensures) ∙ sym json) is

pub returns : goal.returns
returns c = λ table cells changed y are from column json is.
    let first : c.args.members.now ≡ c.in-Some.member.now ∷ c.in-Some.left.now = c.in-Some.ensures.cases.0 in
    compares_other table c.args.text.now y c.in-Some.member.now c.in-Some.left.now cells changed c.value.result.now _ _ c.separator_after.result (rw first at are) (omega (arith, c.if-member-column.false, column)) (λ x h. c.value.ensures table x h) (λ e. false≢true (c.if-eq.ensures ∙ (bytes_eq-Decides c.value.result.now c.args.after.now).1 (e ∙ json))) is
    (c.separator_after.ensures table changed is) (λ x h. c.in_ok-put_whole.ensures.text table x h)
