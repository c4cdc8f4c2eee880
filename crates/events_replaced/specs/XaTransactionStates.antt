-- What the XA transactions that are kept represent.
use Rattle.std.specs.Prelude.{◌≡◌, ◌++◌, ◌∷◌, [], ℕ, Bool, true, false, List, Option, Some, None, is_some, map}
use Rattle.events_replaced.specs.XaStates.{PreparedTransaction, XaState}
use Rattle.events_replaced.specs.declared.xa_fault.XaFault.{XaFault}
use Rattle.events_replaced.specs.declared.prepared.Prepared.{Prepared}
use Rattle.events_replaced.specs.declared.xa_transactions.XaTransactions.{XaTransactions}

-- a prepared transaction
abbrev pub prepared_view : Prepared → PreparedTransaction
prepared_view p = record { xid = p.xid.items; events = p.events.items }

-- the events of the open one, if one is open
abbrev pub kept_if : Bool → List ℕ → Option (List ℕ)
kept_if true kept = Some kept
kept_if false kept = None

-- the state
abbrev pub state_of : XaTransactions → XaState
state_of x = record { limit = x.limit; has_checksum = x.has_checksum; has_failed = is_some x.fault; kept = kept_if x.is_open x.kept.items; prepared = map prepared_view x.prepared.items }

-- what is given in place of the newest event
abbrev pub content_of : XaTransactions → List ℕ
content_of x = x.content.items

-- one more is prepared
pub record AddsPrepared (old : XaTransactions) (p : PreparedTransaction) (new : XaTransactions) : Type 0 where
  pub prepared : (state_of new).prepared ≡ (state_of old).prepared ++ p ∷ []
  pub limit : new.limit ≡ old.limit
  pub has_checksum : new.has_checksum ≡ old.has_checksum
  pub fault : new.fault ≡ old.fault
  pub is_open : new.is_open ≡ old.is_open
  pub kept : new.kept ≡ old.kept
  pub content : new.content ≡ old.content

-- why no events are taken any more
abbrev pub fault_in : XaTransactions → Option XaFault
fault_in x = x.fault
