-- What may be given after a step within the events in place of another.
use Rattle.std.proofs.Common.{◌≡◌, ℕ, Bool, List, [], drop, Option, refl, ap, ◌∙◌}
use Rattle.events_frames.specs.GivenEvents.{MayBe, GivesEvent, GivesNone}
use Rattle.events_frames.specs.declared.event_error.EventError.{EventError}
use Rattle.events_replaced.specs.StampedEvents.{stamped}
use Rattle.events_replaced.specs.XaTransactionStates.{content_of}
use Rattle.events_replaced.specs.GivenXaEvents.{GivesXa}
use Rattle.events_replaced.specs.XaEventStates.{GivesBy, KeepsSource, KeepsMade, PassesOne, HasNone, content_left, newest_of, at_hand_of, xa_of}
use Rattle.events_replaced.specs.declared.xa_events.XaEvents.{XaEvents}

-- what is given after it, by the state before it
pub moved : {S : Type 0} (Own : S → Option (List ℕ) → MayBe) (s t : XaEvents S) (left : Option (List ℕ)) → KeepsSource s t → (b : List ℕ) → GivesBy Own t left b → GivesXa (Own s.source left) (xa_of s) s.log_pos (content_left t) b
moved Own s t left k b h = rw (← k.source, ← k.xa, ← k.log_pos) h

module _ {S : Type 0} (Own : S → Option (List ℕ) → MayBe) (newest at_hand : S → List ℕ) (s t : XaEvents S) (left : Option (List ℕ)) (Start : MayBe) where
  pub passed_one : (p : PassesOne s t) → GivesEvent Start (GivesXa (Own s.source left) (xa_of s) s.log_pos (content_left t)) (stamped (xa_of s).has_checksum s.log_pos p.event) [] → GivesEvent Start (GivesBy Own t left) (newest_of newest t) (at_hand_of at_hand t)
  passed_one p e = record {
    whole = rw (p.newest, p.stamped_is) e.whole;
    before = λ rest h. rw (p.newest, p.stamped_is) (e.before rest (moved Own s t left p.keeps rest h));
    begins = λ rest h. rw p.newest (rest, refl);
  }

  pub kept_none : (k : KeepsMade s t) → HasNone s → (failed : Bool) (fault : EventError) → GivesNone failed Start (GivesXa (Own s.source left) (xa_of s) s.log_pos (content_left s)) [] [] fault → GivesNone failed Start (GivesBy Own t left) (newest_of newest t) (at_hand_of at_hand t) fault
  kept_none k none failed fault e =
      let same : content_left t ≡ content_left s = ap (λ (n : ℕ). drop n (content_of t.transactions.now)) k.given ∙ ap (drop s.given) k.keeps.content in
      record {
        none = rw (k.newest, none) refl;
        before = λ rest h. e.before rest (rw same at (moved Own s t left k.keeps rest h));
        begins = λ rest h. rw (k.newest, none) (rest, refl);
        cause = rw (k.newest, none) e.cause;
      }
