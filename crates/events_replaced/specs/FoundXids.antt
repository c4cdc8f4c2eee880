-- Where the last prepared transaction with an XID is.
use Rattle.std.specs.Prelude.{◌≡◌, ◌<◌, ◌+◌, ℕ, List, length, drop, map, slice_index_or}
use Rattle.events_replaced.specs.XaStates.{HasNoXid}
use Rattle.events_replaced.specs.XaTransactionStates.{prepared_view}
use Rattle.events_replaced.specs.declared.prepared.Prepared.{Prepared}

-- it is the one at this index, and none after it has the XID
pub record FindsXid (xid : List ℕ) (l : List Prepared) (n : ℕ) : Type 0 where
  pub within : n < length l
  pub found : Prepared
  pub is : slice_index_or l n found ≡ found
  pub has : found.xid.items ≡ xid
  pub last : HasNoXid xid (map prepared_view (drop (n + 1) l))
