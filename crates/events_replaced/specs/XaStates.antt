-- What is known of XA transactions after the events of some logs.
use Rattle.std.specs.Prelude.{◌≡◌, ◌≢◌, ◌++◌, ℕ, Bool, false, List, [], ◌∷◌, Option, None, is_some}
use Rattle.std.specs.List.{All}

-- a transaction that is prepared: its XID, and its events, without checksums and positions, one after the other
pub record PreparedTransaction : Type 0 where
  pub xid : List ℕ
  pub events : List ℕ

-- the maximum length of the events of a transaction; whether the log's events have checksums; whether an event couldn't be taken; the events of the open transaction, if one is open; and the transactions that are prepared, the oldest first
pub record XaState : Type 0 where
  pub limit : ℕ
  pub has_checksum : Bool
  pub has_failed : Bool
  pub kept : Option (List ℕ)
  pub prepared : List PreparedTransaction

abbrev pub is_open : XaState → Bool
is_open s = is_some s.kept

-- the same with this open transaction, or with none
abbrev pub with_kept : Option (List ℕ) → XaState → XaState
with_kept kept s = record { limit = s.limit; has_checksum = s.has_checksum; has_failed = s.has_failed; kept = kept; prepared = s.prepared }

-- the same with these transactions prepared, and none open
abbrev pub with_prepared : List PreparedTransaction → XaState → XaState
with_prepared prepared s = record { limit = s.limit; has_checksum = s.has_checksum; has_failed = s.has_failed; kept = None; prepared = prepared }

-- the same where the events have checksums or not, and none is open
abbrev pub with_checksum : Bool → XaState → XaState
with_checksum has_checksum s = record { limit = s.limit; has_checksum = has_checksum; has_failed = s.has_failed; kept = None; prepared = s.prepared }

-- none is open or prepared
abbrev pub no_transactions : ℕ → XaState
no_transactions limit = record { limit = limit; has_checksum = false; has_failed = false; kept = None; prepared = [] }

-- a log begins: those that are prepared stay so
abbrev pub begun : XaState → XaState
begun s = record { limit = s.limit; has_checksum = false; has_failed = false; kept = None; prepared = s.prepared }

-- no transaction has this XID
abbrev pub HasNoXid : List ℕ → List PreparedTransaction → Type 0
HasNoXid xid l = All (λ p. p.xid ≢ xid) l

-- the last transaction with this XID stands between the others
pub record HasXid (xid : List ℕ) (l : List PreparedTransaction) (events : List ℕ) (others : List PreparedTransaction) : Type 0 where
  pub before : List PreparedTransaction
  pub after : List PreparedTransaction
  pub is : l ≡ before ++ record { xid = xid; events = events } ∷ after
  pub last : HasNoXid xid after
  pub others_are : others ≡ before ++ after
