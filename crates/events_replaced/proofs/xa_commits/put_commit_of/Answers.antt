use Rattle.std.proofs.Common.{arith, sym, ap, ◌∙◌, ◌++◌, List, ℕ}
use Rattle.std.proofs.lemmas.Result.{on_ok_weaker}
use Rattle.events_replaced.proofs.MadeLemmas.{made_joined}
use Rattle.events_replaced.proofs.XaCommitLemmas.{with_room, without_room, xid_body_len}
use Rattle.events_replaced.proofs.xa_commits.put_commit_of.Goals as goal

pub returns-then-not-has_room-clause-made : goal.returns-then-not-has_room-clause-made
returns-then-not-has_room-clause-made c =
    let none = without_room c.args.events.now c.args.xid.now c.args.event.now (sym c.has_room.ensures ∙ c.if-not-has_room.true) in
    on_ok_weaker c.put_commit.result (λ e. e ∙ ap (λ (l : List ℕ). c.args.out.now.items ++ l) (sym none)) c.put_commit.ensures.made

pub returns-clause-made : goal.returns-clause-made
returns-clause-made c =
    let room = with_room c.args.events.now c.args.xid.now c.args.event.now (sym c.has_room.ensures ∙ c.if-not-has_room.false) in
    on_ok_weaker c.put_xid_body.result (λ e. made_joined _ c.put_header.new.out.items _ _ c.args.event.now 2 _ c.in_ok-put_header.ensures.made e (omega (arith, xid_body_len c.args.xid.now)) ∙ ap (λ (l : List ℕ). c.args.out.now.items ++ l) (sym room)) c.put_xid_body.ensures.made
