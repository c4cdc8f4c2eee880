use Rattle.std.proofs.Common.{sym, ap, ◌∙◌, ◌++◌, List, ℕ}
use Rattle.std.proofs.lemmas.Result.{on_ok_weaker}
use Rattle.feed_text.specs.Buffers.{text_in}
use Rattle.changes_cells.proofs.MemberLemmas.{member_found}
use Rattle.changes_cells.proofs.members.append_member.Goals as goal

pub returns-in-Some-clause-ok : goal.returns-in-Some-clause-ok
returns-in-Some-clause-ok g c =
    let l = c.in-Some.ensures.lookup.3 in
    on_ok_weaker c.put_text.result
    (λ e. e ∙ ap (λ (t : List ℕ). text_in c.args.text.now ++ t) (c.deref.ensures.value ∙ sym (member_found (λ m. m.items) c.args.members.now c.args.number c.in-Some.name.now c.if-number-eq0.false l.0 l.1)))
    c.put_text.ensures.ok
