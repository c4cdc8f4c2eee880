use Rattle.std.proofs.Common.{◌≤◌, length, drop, map}
use Rattle.events_replaced.specs.XaStates.{HasNoXid}
use Rattle.events_replaced.specs.XaTransactionStates.{prepared_view}
use Rattle.events_replaced.proofs.prepared.Prepared.index_of.Given as goal

-- none of those from the offset on has the XID
abbrev pub invariant-loop-end : goal.invariant-loop-end
invariant-loop-end l = record {
  within : l.end ≤ length l.fn.prepared;
  none : HasNoXid l.fn.xid (map prepared_view (drop l.end l.fn.prepared));
}

abbrev pub decreases-loop-end : goal.decreases-loop-end
decreases-loop-end l = l.end
