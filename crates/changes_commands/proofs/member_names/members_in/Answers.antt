use Rattle.std.proofs.Common.{lit<, length, sym}
use Rattle.std.proofs.lemmas.Iterator.Consumers.{YieldsList-end, YieldsList-turn}
use Rattle.std.proofs.lemmas.Iterator.Splits.{YieldsList-from_str_split}
use Rattle.std.proofs.lemmas.List.{length_push}
use Rattle.changes_commands.proofs.MemberNameLemmas.{known_more, none_at, some_at}
use Rattle.changes_commands.proofs.member_names.members_in.Goals as goal

pub returns-in_err-members_named : goal.returns-in_err-members_named
returns-in_err-members_named c =
    let turn = YieldsList-turn (YieldsList-from_str_split 44 c.args.names.now (lit< tt) (cc) (cc) (cc)) c.loop-name.yielded _ c.loop-name.yielded_by _ _ c.in-Some.name c.in-Some.is c.next.ensures.steps in
    none_at _ _ _ _ c.from_residual.ensures turn.0 turn.1 c.in_err-members_named.ensures

pub loop-name-preserved : goal.loop-name-preserved
loop-name-preserved c =
    let turn = YieldsList-turn (YieldsList-from_str_split 44 c.args.names.now (lit< tt) (cc) (cc) (cc)) c.loop-name.yielded _ c.loop-name.yielded_by _ _ c.in-Some.name c.in-Some.is c.next.ensures.steps in
    known_more _ (length c.loop-name.yielded) _ _ _ _ _ (length_push c.loop-name.yielded c.in-Some.name) turn.0 turn.1 c.loop-name.invariant (sym c.in_ok-members_named.ensures) c.either-added.ensures

pub returns : goal.returns
returns c =
    let whole = YieldsList-end (YieldsList-from_str_split 44 c.args.names.now (lit< tt) (cc) (cc) (cc)) c.loop-name.yielded _ c.loop-name.yielded_by _ _ c.in-None.is c.next.ensures.steps in
    some_at _ _ _ whole.1 c.loop-name.invariant
