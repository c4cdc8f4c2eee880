-- What is given in place of the events of a log that has XA transactions.
use Rattle.std.specs.Prelude.{◌≡◌, ◌++◌, ℕ, true, false, List}
use Rattle.std.specs.List.{flat_map}
use Rattle.events_frames.specs.Events.{has_event, IsWholeEvent}
use Rattle.events_frames.specs.GivenEvents.{MayBe}
use Rattle.events_frames.specs.HeaderFields.{header_field}
use Rattle.events_replaced.specs.StampedEvents.{AreFirstEvents, stamped}
use Rattle.events_replaced.specs.XaStates.{XaState}
use Rattle.events_replaced.specs.XaSteps.{HasFault, IsTaken, passed, passes, role_in}
use Rattle.events_replaced.specs.declared.xa_fault.XaFault.{XaFault}

-- what is given for the events that bytes begin with, and the bytes after them, by the state before them: an event as it is; those in place of one that is taken, with the position after it; or, from one that can't be taken on, all as they are
pub data IsGivenWithXa : XaState → List ℕ → List ℕ → Type 0 where
  given_rest : (s : XaState) (own : List ℕ) → has_event own ≡ false → IsGivenWithXa s own own
  given_own : (s : XaState) (event own rest : List ℕ) → IsWholeEvent event → passes s (role_in s event) ≡ true → IsGivenWithXa (passed s (role_in s event) event) own rest → IsGivenWithXa s (event ++ own) (event ++ rest)
  given_taken : (s t : XaState) (event content own rest : List ℕ) (events : List (List ℕ)) → IsWholeEvent event → passes s (role_in s event) ≡ false → IsTaken s (role_in s event) event content t → AreFirstEvents content events → IsGivenWithXa t own rest
      → IsGivenWithXa s (event ++ own) (flat_map (stamped s.has_checksum (header_field 13 4 event)) events ++ rest)
  given_failed : (s : XaState) (event own : List ℕ) (fault : XaFault) → IsWholeEvent event → passes s (role_in s event) ≡ false → HasFault s (role_in s event) event fault → IsGivenWithXa s (event ++ own) (event ++ own)

-- the events that are left in place of the newest, and then what is given for the events of another source
pub record GivesXa (Own : MayBe) (s : XaState) (log_pos : ℕ) (content : List ℕ) (b : List ℕ) : Type 0 where
  pub within : List (List ℕ)
  pub are : AreFirstEvents content within
  pub own : List ℕ
  pub gives : Own own
  pub rest : List ℕ
  pub is : IsGivenWithXa s own rest
  pub joined : b ≡ flat_map (stamped s.has_checksum log_pos) within ++ rest
