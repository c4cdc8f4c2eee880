use Rattle.std.proofs.Common.{rules, ◌≡◌, ◌++◌, sym, ap, ◌∙◌}
use Rattle.std.specs.Prelude.{map, slice_index_or}
use Rattle.events_replaced.specs.XaSteps.{begin_made}
use Rattle.events_replaced.specs.XaCommits.{commit_of}
use Rattle.events_replaced.specs.XaTransactionStates.{prepared_view}
use Rattle.events_replaced.specs.FoundXids.{FindsXid}
use Rattle.events_replaced.specs.XaIdentifiers.{committed_xid}
use Rattle.events_replaced.proofs.XidLemmas.{removed_xid, same_found}
use Rattle.events_replaced.specs.declared.prepared.Prepared.{Prepared}
use Rattle.events_replaced.proofs.xa_transactions.XaTransactions.commit.Goals as goal

pub returns-clause-ok : goal.returns-clause-ok
returns-clause-ok c =
    let l = c.args.self.now.prepared.items in
    let p = c.remove.result in
    let finds : FindsXid (committed_xid c.args.event.now) l c.in-Some.index = search rules in
    let is : slice_index_or l c.in-Some.index p ≡ p = search rules in
    let at : slice_index_or l c.in-Some.index c.index.result.now ≡ c.index.result.now = search rules in
    let same : p ≡ c.index.result.now = same_found (committed_xid c.args.event.now) l c.in-Some.index finds p is c.index.result.now at in
    let begin = begin_made c.args.event.now in
    let xid = committed_xid c.args.event.now in
    let kept : c.put_commit_of.new.out.items ≡ (begin ++ c.index.result.now.events.items) ++ commit_of c.index.result.now.events.items xid c.args.event.now = search rules in
    let given : c.put_commit_of.new.out.items ≡ (begin ++ p.events.items) ++ commit_of p.events.items xid c.args.event.now = kept ∙ ap (λ (q : Prepared). (begin ++ q.events.items) ++ commit_of q.events.items xid c.args.event.now) (sym same) in
    record {
      closed = search rules;
      events = p.events.items;
      others = map prepared_view c.remove.new.self.items;
      has = removed_xid (committed_xid c.args.event.now) l c.in-Some.index finds p is c.remove.new.self.items c.remove.ensures.items;
      given = given;
      state = search rules;
    }
