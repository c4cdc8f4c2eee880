use Rattle.std.proofs.Common.{sym, ap, ◌∙◌, ◌++◌, List, ℕ, take}
use Rattle.changes_cells.proofs.MemberLemmas.{member_found, member_past}
use Rattle.changes_cells.proofs.members.put_member.Goals as goal

pub returns-in-Some-clause-text : goal.returns-in-Some-clause-text
returns-in-Some-clause-text c =
    let l = c.in-Some.ensures.lookup.3 in
    c.put_bytes.ensures.text ∙ ap (λ (t : List ℕ). take c.args.at c.args.text.now ++ t) (c.deref.ensures.value ∙ sym (member_found (λ m. m.items) c.args.members.now c.args.number c.in-Some.name.now c.if-number-eq0.false l.0 l.1))

pub returns-in-None-clause-text : goal.returns-in-None-clause-text
returns-in-None-clause-text c =
    c.put_number-in-None.ensures.text ∙ ap (λ (t : List ℕ). take c.args.at c.args.text.now ++ t) (sym (member_past (λ m. m.items) c.args.members.now c.args.number c.if-number-eq0.false c.in-None.ensures.lookup.3))
