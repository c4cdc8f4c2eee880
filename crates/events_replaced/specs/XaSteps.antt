-- What is given in place of an event of an XA transaction (MySQL manual: XA Transaction States), and for which none is.
use Rattle.std.specs.Prelude.{◌≡◌, ◌⊎◌, ◌<◌, ◌≤◌, ◌+◌, ◌-◌, ◌&&◌, ◌||◌, ◌++◌, ℕ, Bool, true, false, List, [], ◌∷◌, codes, length, take, drop, nat_le, not, Some, None, ⊤, if◌then◌else◌}
use Rattle.byteorder.specs.Endian.{little_number}
use Rattle.events_replaced.specs.MadeEvents.{made, statement_body}
use Rattle.events_replaced.specs.GivenReplacements.{checksums_after}
use Rattle.events_replaced.specs.PayloadContents.{IsChecked, IsSummed}
use Rattle.events_replaced.specs.StampedEvents.{stamped}
use Rattle.events_replaced.specs.XaRoles.{role_of}
use Rattle.events_replaced.specs.XaCommits.{commit_made, commit_of}
use Rattle.events_replaced.specs.XaIdentifiers.{committed_xid, is_one_phase, is_prepare, prepared_xid, rolled_back_xid}
use Rattle.events_replaced.specs.XaStates.{HasNoXid, HasXid, PreparedTransaction, XaState, is_open, with_checksum, with_kept, with_prepared}
use Rattle.events_replaced.specs.declared.xa_fault.XaFault.{XaFault}
use Rattle.events_replaced.specs.declared.xa_fault.XaFault.TheVariants as faults
use Rattle.events_replaced.specs.declared.xa_role.XaRole.{XaRole}
use Rattle.events_replaced.specs.declared.xa_role.XaRole.TheVariants as roles

-- the bytes of an event before its checksum
abbrev pub before_sum : Bool → List ℕ → List ℕ
before_sum has_checksum event = if has_checksum && nat_le 23 (length event) then take (length event - 4) event else event

-- what an event is
abbrev pub role_in : XaState → List ℕ → XaRole
role_in s event = role_of (before_sum s.has_checksum event)

-- ---- an event that is given as it is

abbrev pub passes_role : Bool → XaRole → Bool
passes_role is_open roles.None = true
passes_role is_open roles.Part = not is_open
passes_role is_open roles.Drop = true
passes_role is_open roles.Description = true
passes_role is_open _ = false

-- whether an event is given as it is; after one that couldn't be taken all are
abbrev pub passes : XaState → XaRole → Bool
passes s role = s.has_failed || passes_role (is_open s) role

-- the state after it: ROLLBACK and a format description drop the open transaction
abbrev pub passed_role : XaState → XaRole → List ℕ → XaState
passed_role s roles.Drop event = with_kept None s
passed_role s roles.Description event = with_checksum (checksums_after s.has_checksum event) s
passed_role s _ event = s

abbrev pub passed : XaState → XaRole → List ℕ → XaState
passed s role event = if s.has_failed then s else passed_role s role event

-- ---- an event in whose place others are given; all without checksums

-- the thread of a statement, which its event has after the header
abbrev pub thread_of : List ℕ → ℕ
thread_of event = if nat_le 23 (length event) then little_number 4 (drop 19 event) else 0

-- BEGIN with the thread of a statement
abbrev pub begin_made : List ℕ → List ℕ
begin_made event = made 2 (statement_body (thread_of event) (codes "BEGIN")) event

-- an event of the open transaction is kept, if that isn't longer than the limit then, and nothing given
pub record KeepsPart (s : XaState) (event content : List ℕ) (t : XaState) : Type 0 where
  pub kept : List ℕ
  pub open_is : s.kept ≡ Some kept
  pub within : length kept + length event ≤ s.limit
  pub nothing : content ≡ []
  pub state : t ≡ with_kept (Some (kept ++ stamped false 0 event)) s

-- XA START begins a transaction: BEGIN is given
pub record Starts (s : XaState) (event content : List ℕ) (t : XaState) : Type 0 where
  pub closed : s.kept ≡ None
  pub given : content ≡ begin_made event
  pub state : t ≡ with_kept (Some []) s

-- after XA END nothing is given
pub record Ends (s : XaState) (content : List ℕ) (t : XaState) : Type 0 where
  pub open_is : is_open s ≡ true
  pub nothing : content ≡ []
  pub state : t ≡ s

-- the events that are given, and the transactions that are prepared then: a commit in one phase gives the events of the open transaction and COMMIT with its XID, and another keeps the events and gives COMMIT
abbrev pub given_prepared : Bool → List ℕ → List ℕ → List ℕ → List ℕ
given_prepared is_one_phase xid kept event = if is_one_phase then kept ++ commit_of kept xid event else commit_made event

abbrev pub prepared_after : Bool → List ℕ → List ℕ → List PreparedTransaction → List PreparedTransaction
prepared_after is_one_phase xid kept l = if is_one_phase then l else l ++ record { xid = xid; events = kept } ∷ []

-- the open transaction is prepared, or committed in one phase
pub record Prepares (s : XaState) (event content : List ℕ) (t : XaState) : Type 0 where
  pub kept : List ℕ
  pub open_is : s.kept ≡ Some kept
  pub fields : is_prepare event ≡ true
  pub given : content ≡ given_prepared (is_one_phase event) (prepared_xid event) kept event
  pub state : t ≡ with_prepared (prepared_after (is_one_phase event) (prepared_xid event) kept s.prepared) s

-- XA COMMIT gives the events of the last transaction that was prepared with this XID, between BEGIN and COMMIT with the XID
pub record Commits (s : XaState) (event content : List ℕ) (t : XaState) : Type 0 where
  pub closed : s.kept ≡ None
  pub events : List ℕ
  pub others : List PreparedTransaction
  pub has : HasXid (committed_xid event) s.prepared events others
  pub given : content ≡ (begin_made event ++ events) ++ commit_of events (committed_xid event) event
  pub state : t ≡ with_prepared others s

-- the last transaction with an XID is dropped, if there is one
abbrev pub Drops : List ℕ → List PreparedTransaction → List PreparedTransaction → Type 0
Drops xid l others = (HasNoXid xid l × (others ≡ l)) ⊎ ((events : List ℕ) × HasXid xid l events others)

-- XA ROLLBACK drops a prepared transaction: BEGIN and COMMIT are given
pub record RollsBack (s : XaState) (event content : List ℕ) (t : XaState) : Type 0 where
  pub closed : s.kept ≡ None
  pub others : List PreparedTransaction
  pub drops : Drops (rolled_back_xid event) s.prepared others
  pub given : content ≡ begin_made event ++ commit_made event
  pub state : t ≡ with_prepared others s

-- or the open one: COMMIT is given
pub record DropsOpen (s : XaState) (event content : List ℕ) (t : XaState) : Type 0 where
  pub open_is : is_open s ≡ true
  pub given : content ≡ commit_made event
  pub state : t ≡ with_kept None s

-- an event, without its checksum, was taken as this
abbrev pub TakesRole : XaState → XaRole → List ℕ → List ℕ → XaState → Type 0
TakesRole s roles.Part event content t = KeepsPart s event content t
TakesRole s roles.Start event content t = Starts s event content t
TakesRole s roles.End event content t = Ends s content t
TakesRole s roles.Prepare event content t = Prepares s event content t
TakesRole s roles.Commit event content t = Commits s event content t
TakesRole s roles.Rollback event content t = RollsBack s event content t ⊎ DropsOpen s event content t
TakesRole s _ event content t = ⊥

-- an event was taken
pub record IsTaken (s : XaState) (role : XaRole) (event content : List ℕ) (t : XaState) : Type 0 where
  pub bytes : List ℕ
  pub checked : IsChecked s.has_checksum event bytes
  pub takes : TakesRole s role bytes content t

-- ---- an event that can't be taken

-- the open transaction would be longer than the limit
pub record IsTooLong (s : XaState) (role : XaRole) (event : List ℕ) : Type 0 where
  pub kept : List ℕ
  pub open_is : s.kept ≡ Some kept
  pub part : role ≡ roles.Part
  pub longer : s.limit < length kept + length event

-- an XA statement where none may be: a transaction is open at XA START and XA COMMIT, and none at XA END and where one is prepared
abbrev pub IsMisplaced : Bool → XaRole → Type 0
IsMisplaced is_open roles.Start = is_open ≡ true
IsMisplaced is_open roles.Commit = is_open ≡ true
IsMisplaced is_open roles.End = is_open ≡ false
IsMisplaced is_open roles.Prepare = is_open ≡ false
IsMisplaced is_open _ = ⊥

-- an event without its checksum has this fault
abbrev pub FaultOf : XaState → XaRole → List ℕ → XaFault → Type 0
FaultOf s role event faults.Checksum = ⊥
FaultOf s role event faults.Unprepared = (role ≡ roles.Commit) × HasNoXid (committed_xid event) s.prepared
FaultOf s role event faults.Misplaced = IsMisplaced (is_open s) role
FaultOf s role event faults.Statement = (role ≡ roles.Other) ⊎ ((role ≡ roles.Prepare) × (is_prepare event ≡ false))
FaultOf s role event faults.TooLong = IsTooLong s role event
FaultOf s role event faults.Memory = ⊤

pub record HasFaultBefore (s : XaState) (role : XaRole) (event : List ℕ) (fault : XaFault) : Type 0 where
  pub bytes : List ℕ
  pub checked : IsChecked s.has_checksum event bytes
  pub has : FaultOf s role bytes fault

-- an event has this fault; memory may run out at any that is taken
abbrev pub HasFault : XaState → XaRole → List ℕ → XaFault → Type 0
HasFault s role event faults.Checksum = (s.has_checksum ≡ true) × ((bytes : List ℕ) → IsSummed event bytes → ⊥)
HasFault s role event faults.Memory = ⊤
HasFault s role event fault = HasFaultBefore s role event fault
