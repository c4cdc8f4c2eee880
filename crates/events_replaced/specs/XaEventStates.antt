-- The state of a source that gives the events of XA transactions, and what it may give from there on.
use Rattle.std.specs.Prelude.{◌≡◌, ◌≤◌, ◌<◌, ◌+◌, ◌-◌, ◌*◌, ◌^◌, ◌++◌, ℕ, Bool, true, false, List, [], length, drop, Option, ◌==◌}
use Rattle.events_frames.specs.Events.{has_event, IsWholeEvent}
use Rattle.events_frames.specs.GivenEvents.{MayBe}
use Rattle.events_frames.specs.declared.event_error.EventError.{EventError}
use Rattle.events_frames.specs.declared.event_error.EventError.TheVariants as faults
use Rattle.events_replaced.specs.StampedEvents.{stamped}
use Rattle.events_replaced.specs.GivenXaEvents.{GivesXa}
use Rattle.events_replaced.specs.XaStates.{XaState, is_open}
use Rattle.events_replaced.specs.XaTransactionStates.{content_of, state_of}
use Rattle.events_replaced.specs.declared.xa_events.XaEvents.{XaEvents}
use Rattle.events_replaced.specs.declared.xa_events.Newest.{Newest}
use Rattle.events_replaced.specs.declared.xa_events.Newest.TheVariants as newest

-- the other source
abbrev pub source_of : {S : Type 0} → XaEvents S → S
source_of s = s.source

-- what is known of XA transactions
abbrev pub xa_of : {S : Type 0} → XaEvents S → XaState
xa_of s = state_of s.transactions.now

-- whether no transaction is prepared
abbrev pub clear_of : {S : Type 0} → XaEvents S → Bool
clear_of s = length (xa_of s).prepared == 0

-- what is left in place of the newest event
abbrev pub content_left : {S : Type 0} → XaEvents S → List ℕ
content_left s = drop s.given (content_of s.transactions.now)

-- the newest event
abbrev pub newest_by : Newest → List ℕ → List ℕ → List ℕ
newest_by newest.Own own made = own
newest_by newest.Made own made = made
newest_by _ own made = []

abbrev pub newest_of : {S : Type 0} → (S → List ℕ) → XaEvents S → List ℕ
newest_of own s = newest_by s.newest (own s.source) s.event.items

-- the bytes after it that are at hand: those of the other source, once it has no more events
abbrev pub at_hand_by : Newest → List ℕ → List ℕ
at_hand_by newest.Over own = own
at_hand_by _ own = []

abbrev pub at_hand_of : {S : Type 0} → (S → List ℕ) → XaEvents S → List ℕ
at_hand_of own s = at_hand_by s.newest (own s.source)

-- there is no newest event after an error of the other source; after a broken header its bytes are at hand
abbrev pub newest_after : EventError → Newest
newest_after faults.Frame = newest.Over
newest_after _ = newest.None

-- how many calls may follow: for each of the other source at most one for each byte in place of an event
abbrev pub calls_left : {S : Type 0} → (S → ℕ → ℕ) → XaEvents S → ℕ → ℕ
calls_left own s reads = own s.source reads * 2 ^ 64 + (length (content_of s.transactions.now) - s.given)

-- what it may give, by what the other source may give if these bytes are left to their reader
abbrev pub GivesBy : {S : Type 0} → (S → Option (List ℕ) → MayBe) → XaEvents S → Option (List ℕ) → MayBe
GivesBy Own s left b = GivesXa (Own s.source left) (xa_of s) s.log_pos (content_left s) b

-- there is no newest event
abbrev pub HasNone : {S : Type 0} → XaEvents S → Type 0
HasNone s = s.newest ≡ newest.None

-- nothing was given
abbrev pub IsUnstarted : {S : Type 0} → XaEvents S → Type 0
IsUnstarted s = content_left s ≡ []

-- all but the event, the part that was given, and where the newest event is stays as it was
pub record KeepsSource {S : Type 0} (old new : XaEvents S) : Type 0 where
  pub source : new.source ≡ old.source
  pub xa : xa_of new ≡ xa_of old
  pub log_pos : new.log_pos ≡ old.log_pos
  pub content : content_of new.transactions.now ≡ content_of old.transactions.now

pub record KeepsMade {S : Type 0} (old new : XaEvents S) : Type 0 where
  pub keeps : KeepsSource old new
  pub given : new.given ≡ old.given
  pub newest : new.newest ≡ old.newest

-- the next event within what is left became the newest
pub record PassesOne {S : Type 0} (old new : XaEvents S) : Type 0 where
  pub keeps : KeepsSource old new
  pub event : List ℕ
  pub whole : IsWholeEvent event
  pub few : length event + 4 < 2 ^ 32
  pub begins : content_left old ≡ event ++ content_left new
  pub given : old.given + length event ≡ new.given
  pub within : new.given ≤ length (content_of old.transactions.now)
  pub newest : new.newest ≡ newest.Made
  pub stamped_is : new.event.items ≡ stamped (xa_of old).has_checksum old.log_pos event

-- no event is left
pub record PassesNone {S : Type 0} (old new : XaEvents S) : Type 0 where
  pub keeps : KeepsSource old new
  pub none : has_event (content_left old) ≡ false
  pub end : has_event (content_left new) ≡ false
  pub given : new.given ≡ old.given
  pub newest : new.newest ≡ old.newest

abbrev pub PassesMade : {S : Type 0} → XaEvents S → Bool → XaEvents S → Type 0
PassesMade old true new = PassesOne old new
PassesMade old false new = PassesNone old new

-- its newest event is the other source's, which is idle, nothing is left in place of one, and no transaction is open
pub record IsIdleOver {S : Type 0} (IsIdle : S → Type 0) (s : XaEvents S) : Type 0 where
  pub own : s.newest ≡ newest.Own
  pub none : has_event (content_left s) ≡ false
  pub closed : is_open (xa_of s) ≡ false
  pub below : IsIdle s.source
