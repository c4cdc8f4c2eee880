use Rattle.std.proofs.Common.{rules, ◌≡◌, inl, inr}
use Rattle.std.specs.Prelude.{map, slice_index_or}
use Rattle.events_replaced.specs.XaTransactionStates.{prepared_view}
use Rattle.events_replaced.specs.FoundXids.{FindsXid}
use Rattle.events_replaced.specs.XaIdentifiers.{rolled_back_xid}
use Rattle.events_replaced.proofs.XidLemmas.{removed_xid}
use Rattle.events_replaced.proofs.xa_transactions.XaTransactions.roll_back.Goals as goal

pub returns-in-Some-clause-ok : goal.returns-in-Some-clause-ok
returns-in-Some-clause-ok c =
    let l = c.args.self.now.prepared.items in
    let p = c.remove.result in
    let finds : FindsXid (rolled_back_xid c.args.event.now) l c.in-Some.index = search rules in
    let is : slice_index_or l c.in-Some.index p ≡ p = search rules in
    inl (record {
      closed = search rules;
      others = map prepared_view c.remove.new.self.items;
      drops = inr (p.events.items, removed_xid (rolled_back_xid c.args.event.now) l c.in-Some.index finds p is c.remove.new.self.items c.remove.ensures.items);
      given = search rules;
      state = search rules;
    })
