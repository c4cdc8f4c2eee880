-- The statements of the crate's laws.
use Rattle.std.specs.Prelude.{◌≡◌, ◌⊎◌, Bool, false, List, [], ◌∷◌, ◌++◌, None, is_some}
use Rattle.std.specs.List.{list_any}
use Rattle.events_frames.specs.QueryTexts.{StatementTexts}
use Rattle.feed_checks.specs.PastLists.{before_newest}
use Rattle.feed_checks.specs.EventFields.{Event, log_pos_of, in_force}
use Rattle.feed_checks.specs.Kinds.{Kind, Begin, Commit, Statement, open_change, is_begin, is_inside, since_begin, waiting, kinds, kind_of}
use Rattle.feed_transactions.specs.Transactions.{Transaction, Stated, lines_of}

-- a begin, a commit, a rollback or a format description
abbrev pub is_boundary : Kind → Bool
is_boundary k = is_some (open_change k)

-- some begin has no begin, commit, rollback or format description after it; `middle` came after it, `older` before it
pub record IsOpen (past : List Kind) : Type 0 where
  pub middle : List Kind
  pub older : List Kind
  pub split : past ≡ middle ++ Begin ∷ older
  pub unbroken : list_any is_boundary middle ≡ false
  pub since_is : since_begin past ≡ middle
  pub before_is : before_newest is_begin past ≡ older

-- a transaction reaches from a begin up to its commit: it has the GTID that waited at the begin, and the lines of the events between
pub record IsCommitted (past : List Kind) (t : Transaction) : Type 0 where
  pub middle : List Kind
  pub older : List Kind
  pub split : past ≡ middle ++ Begin ∷ older
  pub unbroken : list_any is_boundary middle ≡ false
  pub gtid_is : t.gtid ≡ waiting older
  pub lines_are : t.lines ≡ lines_of middle

-- a transaction is one statement outside any other, with the GTID that waited
pub record IsSingleStatement (past : List Kind) (k : Kind) (t : Transaction) : Type 0 where
  pub query : StatementTexts
  pub kind_is : k ≡ Statement query
  pub outside : is_inside past ≡ false
  pub gtid_is : t.gtid ≡ waiting past
  pub lines_are : t.lines ≡ Stated query ∷ []

-- a transaction is complete at an event: the event commits it, or is its only statement
abbrev pub IsCompleteTransaction : List Kind → Kind → Transaction → Type 0
IsCompleteTransaction past k t = ((k ≡ Commit) × IsCommitted past t) ⊎ IsSingleStatement past k t

-- the events before, given the newest first, and then the list, in the order of the log
abbrev pub in_log_order : List Event → List Event → List Event
in_log_order [] l = l
in_log_order (e ∷ past) l = in_log_order past (e ∷ l)

-- a transaction is complete at one of the events, and has this event's position
pub record IsCompleteAtEvent (l : List Event) (t : Transaction) : Type 0 where
  pub past : List Event
  pub event : Event
  pub later : List Event
  pub split : l ≡ in_log_order past (event ∷ later)
  pub position_is : t.position ≡ log_pos_of event
  pub whole : IsCompleteTransaction (kinds past) (kind_of event (in_force past)) t

-- a property holds of each element
abbrev pub Each : {A : Type 0} → (A → Type 0) → List A → Type 0
Each P [] = Unit {0}
Each P (x ∷ xs) = P x × Each P xs

-- no transaction is open, and no GTID waits
pub record IsBetween (past : List Kind) : Type 0 where
  pub outside : is_inside past ≡ false
  pub none_waits : waiting past ≡ None
