-- What is given in place of the events of XA transactions, before and after a step.
use Rattle.std.proofs.Common.{◌≡◌, inl, inr, ℕ, ◌+◌, ◌<◌, ◌≤◌, ◌^◌, ◌⊎◌, Bool, true, false, true≢false, List, [], ◌∷◌, ◌++◌, length, refl, sym, ap, subst, ◌∙◌, append_assoc, arith, leb, ltb}
use Rattle.std.specs.Prelude.{◌&&◌, IsSomeAnd, None, Option, Some}
use Rattle.std.specs.List.{flat_map}
use Rattle.std.proofs.lemmas.Bool.{leb-true, le-leb, lt-leb, ltb-true}
use Rattle.std.proofs.lemmas.List.{length-append}
use Rattle.events_frames.specs.HeaderFields.{header_field}
use Rattle.events_frames.specs.Events.{has_event, header_size_field, is_broken, IsWholeEvent}
use Rattle.events_frames.specs.GivenEvents.{MayBe, BeginsWithWaiting, GivesEvent, GivesEnd, GivesNone}
use Rattle.events_frames.specs.Frames.{IsReadCause}
use Rattle.events_frames.specs.declared.event_error.EventError.{EventError}
use Rattle.events_frames.specs.declared.event_error.EventError.TheVariants as faults
use Rattle.events_frames.proofs.FrameLemmas.{size-prefix}
use Rattle.events_frames.proofs.SourceLemmas.{sizes}
use Rattle.events_replaced.specs.StampedEvents.{AreFirstEvents, stamped}
use Rattle.events_replaced.proofs.UnpackLemmas.{none_within, stamped_whole}
use Rattle.events_replaced.specs.XaStates.{XaState}
use Rattle.events_replaced.specs.XaSteps.{HasFault, IsTaken, TakesRole, passed, passes, role_in}
use Rattle.events_replaced.specs.GivenXaEvents.{GivesXa, IsGivenWithXa}
use Rattle.events_replaced.specs.XaEventStates.{at_hand_by, newest_after, newest_by}
use Rattle.events_replaced.specs.declared.xa_fault.XaFault.{XaFault}
use Rattle.events_replaced.specs.declared.xa_role.XaRole.{XaRole}
use Rattle.events_replaced.specs.declared.xa_role.XaRole.TheVariants as roles

-- the bytes after an event don't change it
starts : (e r : List ℕ) → IsWholeEvent e → has_event (e ++ r) ≡ true
starts e r h =
    let s = sizes e h.whole in
    let size : header_size_field (e ++ r) ≡ length e = size-prefix e r s.0 ∙ h.size in
    rw (size, le-leb 19 (length (e ++ r)) (omega (arith, length-append e r, s.0)), le-leb 19 (length e) s.0, le-leb (length e) (length (e ++ r)) (omega (arith, length-append e r))) refl

-- bytes without an event are given as they are
rest_is : {s : XaState} {own given : List ℕ} → IsGivenWithXa s own given → has_event own ≡ false → given ≡ own
rest_is (IsGivenWithXa.given_rest s own n) none = refl
rest_is (IsGivenWithXa.given_own s event own rest whole pass more) none = absurd (true≢false (sym (starts event own whole) ∙ none))
rest_is (IsGivenWithXa.given_taken s t event content own rest events whole pass taken are more) none = absurd (true≢false (sym (starts event own whole) ∙ none))
rest_is (IsGivenWithXa.given_failed s event own fault whole pass has) none = refl

-- after an event that couldn't be taken all are given as they are
failed_is : {s : XaState} {own given : List ℕ} → IsGivenWithXa s own given → s.has_failed ≡ true → given ≡ own
failed_is (IsGivenWithXa.given_rest s own n) failed = refl
failed_is (IsGivenWithXa.given_own s event own rest whole pass more) failed = ap (λ (l : List ℕ). event ++ l) (failed_is more (rw failed refl))
failed_is (IsGivenWithXa.given_taken s t event content own rest events whole pass taken are more) failed = absurd (true≢false (rw failed at pass))
failed_is (IsGivenWithXa.given_failed s event own fault whole pass has) failed = refl

-- an event that is taken doesn't change whether events have checksums
keeps_checksum : (s t : XaState) (role : XaRole) (event content : List ℕ) → TakesRole s role event content t → t.has_checksum ≡ s.has_checksum
keeps_checksum s t roles.Part event content h = rw h.state refl
keeps_checksum s t roles.Start event content h = rw h.state refl
keeps_checksum s t roles.End event content h = rw h.state refl
keeps_checksum s t roles.Prepare event content h = rw h.state refl
keeps_checksum s t roles.Commit event content h = rw h.state refl
keeps_checksum s t roles.Rollback event content (inl h) = rw h.state refl
keeps_checksum s t roles.Rollback event content (inr h) = rw h.state refl
keeps_checksum s t roles.Other event content h = absurd h
keeps_checksum s t roles.Description event content h = absurd h
keeps_checksum s t roles.Drop event content h = absurd h
keeps_checksum s t roles.None event content h = absurd h

and_two : (a b : Bool) → (a && b) ≡ true → (a ≡ true) × (b ≡ true)
and_two true true h = (refl, refl)
and_two true false h = absurd cc
and_two false b h = absurd cc

-- a broken header begins no event
broken_has_none : (b x : List ℕ) → is_broken b ≡ true → has_event (b ++ x) ≡ false
broken_has_none b x h =
    let t = and_two (leb 19 (length b)) (ltb (header_size_field b) 19) h in
    let long : 19 ≤ length b = leb-true 19 (length b) t.0 in
    let longer : 19 ≤ length (b ++ x) = omega (arith, length-append b x) in
    let low : header_size_field b < 19 = ltb-true (header_size_field b) 19 t.1 in
    rw (size-prefix b x long, le-leb 19 (length (b ++ x)) longer, lt-leb 19 (header_size_field b) low) refl

-- the fault that is there
pub some_fault : (o : Option XaFault) (Has : XaFault → Type 0) → IsSomeAnd o Has → (fault : XaFault) × Has fault
some_fault None Has h = absurd h
some_fault (Some fault) Has h = (fault, h)

-- ---- what may be given, before and after a step

module _ (Own : MayBe) (s : XaState) (log_pos : ℕ) where
  -- the next event within
  pub within_given : (left event after rest : List ℕ) → left ≡ event ++ after → IsWholeEvent event → GivesXa Own s log_pos after rest → GivesXa Own s log_pos left (stamped s.has_checksum log_pos event ++ rest)
  within_given left event after rest begins whole h = record {
    within = event ∷ h.within;
    are = subst (λ (b : List ℕ). AreFirstEvents b (event ∷ h.within)) (sym begins) (AreFirstEvents.one_event event after h.within whole h.are);
    own = h.own;
    gives = h.gives;
    rest = h.rest;
    is = h.is;
    joined = ap (λ (l : List ℕ). stamped s.has_checksum log_pos event ++ l) h.joined ∙ sym (append_assoc (stamped s.has_checksum log_pos event) (flat_map (stamped s.has_checksum log_pos) h.within) h.rest);
  }

  -- no event is left
  pub none_left : (left after rest : List ℕ) → has_event left ≡ false → has_event after ≡ false → GivesXa Own s log_pos after rest → GivesXa Own s log_pos left rest
  none_left left after rest none end h = record { within = []; are = AreFirstEvents.no_event left none; own = h.own; gives = h.gives; rest = h.rest; is = h.is; joined = h.joined ∙ rw (none_within h.are end) refl }

  -- bytes without an event
  pub end_given : (left own : List ℕ) → has_event left ≡ false → has_event own ≡ false → Own own → GivesXa Own s log_pos left own
  end_given left own none end given = record { within = []; are = AreFirstEvents.no_event left none; own = own; gives = given; rest = own; is = IsGivenWithXa.given_rest s own end; joined = refl }

  -- what is given begins with what the other source gives, if that begins with no event
  pub begins_with_own : (left waiting : List ℕ) → has_event left ≡ false → is_broken waiting ≡ true → BeginsWithWaiting Own waiting → BeginsWithWaiting (GivesXa Own s log_pos left) waiting
  begins_with_own left waiting none broken begins rest h =
      let b = begins h.own h.gives in
      let no : has_event h.own ≡ false = ap has_event b.1 ∙ broken_has_none waiting b.0 broken in
      (b.0, h.joined ∙ rw (none_within h.are none) (rest_is h.is no) ∙ b.1)

module _ (Old New : MayBe) (s t : XaState) (log_pos log_pos_then : ℕ) (event left : List ℕ) (whole : IsWholeEvent event) (gives : (rest : List ℕ) → New rest → Old (event ++ rest)) (none : has_event left ≡ false) where
  -- an event that is given as it is
  pub own_given : passes s (role_in s event) ≡ true → t ≡ passed s (role_in s event) event → (left_then rest : List ℕ) → has_event left_then ≡ false → GivesXa New t log_pos_then left_then rest → GivesXa Old s log_pos left (event ++ rest)
  own_given own is left_then rest end h = record {
    within = [];
    are = AreFirstEvents.no_event left none;
    own = event ++ h.own;
    gives = gives h.own h.gives;
    rest = event ++ h.rest;
    is = IsGivenWithXa.given_own s event h.own h.rest whole own (subst (λ (u : XaState). IsGivenWithXa u h.own h.rest) is h.is);
    joined = ap (λ (l : List ℕ). event ++ l) (h.joined ∙ rw (none_within h.are end) refl);
  }

  -- one that can't be taken
  pub failed_given : passes s (role_in s event) ≡ false → (fault : XaFault) → HasFault s (role_in s event) event fault → t.has_failed ≡ true → (left_then rest : List ℕ) → has_event left_then ≡ false → GivesXa New t log_pos_then left_then rest → GivesXa Old s log_pos left (event ++ rest)
  failed_given taken fault has failed left_then rest end h = record {
    within = [];
    are = AreFirstEvents.no_event left none;
    own = event ++ h.own;
    gives = gives h.own h.gives;
    rest = event ++ h.own;
    is = IsGivenWithXa.given_failed s event h.own fault whole taken has;
    joined = ap (λ (l : List ℕ). event ++ l) (h.joined ∙ rw (none_within h.are end) refl ∙ failed_is h.is failed);
  }

  -- one in whose place others are: what is left of these is given after it
  pub taken_given : passes s (role_in s event) ≡ false → log_pos_then ≡ header_field 13 4 event → (content rest : List ℕ) → IsTaken s (role_in s event) event content t → GivesXa New t log_pos_then content rest → GivesXa Old s log_pos left rest
  taken_given taken place content rest is h = record {
    within = [];
    are = AreFirstEvents.no_event left none;
    own = event ++ h.own;
    gives = gives h.own h.gives;
    rest = rest;
    is = subst (λ (l : List ℕ). IsGivenWithXa s (event ++ h.own) l) (sym joined) (IsGivenWithXa.given_taken s t event content h.own h.rest h.within whole taken is h.are h.is);
    joined = refl;
  }
    where
      joined : rest ≡ flat_map (stamped s.has_checksum (header_field 13 4 event)) h.within ++ h.rest
      joined = h.joined ∙ rw (keeps_checksum s t (role_in s event) is.bytes content is.takes, place) refl

-- ---- a call, after events that nothing was given for; `Start` is what might be given before them

module _ (Start Now New : MayBe) (s : XaState) (log_pos : ℕ) (left : List ℕ) (none : has_event left ≡ false) (through : (b : List ℕ) → GivesXa Now s log_pos left b → Start b) where
  pub to_end : (event waiting : List ℕ) → GivesEnd Now New event waiting → GivesEnd Start (GivesXa New s log_pos left) [] waiting
  to_end event waiting h = record {
    none = refl;
    was = through waiting (end_given Now s log_pos left waiting none h.no_event h.was);
    is = end_given New s log_pos left waiting none h.no_event h.is;
    no_event = h.no_event;
    not_broken = h.not_broken;
  }

  unchanged : (rest : List ℕ) → ((own : List ℕ) → New own → Now own) → GivesXa New s log_pos left rest → Start rest
  unchanged rest before h = through rest (record { within = h.within; are = h.are; own = h.own; gives = before h.own h.gives; rest = h.rest; is = h.is; joined = h.joined })

  pub to_error : (failed : Bool) (event waiting own made : List ℕ) (fault : EventError) → GivesNone failed Now New event waiting fault
      → GivesNone failed Start (GivesXa New s log_pos left) (newest_by (newest_after fault) own made) (at_hand_by (newest_after fault) waiting) fault
  to_error failed event waiting own made faults.Frame h = broken h.cause
    where
      broken : ((faults.Frame ≡ faults.Frame) × (is_broken waiting ≡ true)) ⊎ IsReadCause failed faults.Frame → GivesNone failed Start (GivesXa New s log_pos left) [] waiting faults.Frame
      broken (inl k) = record { none = refl; before = λ rest r. unchanged rest h.before r; begins = begins_with_own New s log_pos left waiting none k.1 h.begins; cause = inl (refl, k.1) }
      broken (inr (inl k)) = absurd (cc)
      broken (inr (inr k)) = absurd (let e = k.0 in cc)
  to_error failed event waiting own made fault h = record { none = refl; before = λ rest r. unchanged rest h.before r; begins = λ rest r. (rest, refl); cause = why h.cause }
    where
      why : ((fault ≡ faults.Frame) × (is_broken waiting ≡ true)) ⊎ IsReadCause failed fault → ((fault ≡ faults.Frame) × (is_broken [] ≡ true)) ⊎ IsReadCause failed fault
      why (inl k) = absurd (let e = k.0 in cc)
      why (inr k) = inr k

  module _ (event waiting : List ℕ) (frame : GivesEvent Now New event waiting) (t : XaState) (log_pos_then : ℕ) where
    pub to_own : passes s (role_in s event) ≡ true → t ≡ passed s (role_in s event) event → (left_then : List ℕ) → has_event left_then ≡ false → GivesEvent Start (GivesXa New t log_pos_then left_then) event []
    to_own own is left_then end = record {
      whole = frame.whole;
      before = λ rest h. through (event ++ rest) (own_given Now New s t log_pos log_pos_then event left frame.whole frame.before none own is left_then rest end h);
      begins = λ rest h. (rest, refl);
    }

    pub to_failed : passes s (role_in s event) ≡ false → (fault : XaFault) → HasFault s (role_in s event) event fault → t.has_failed ≡ true → (left_then : List ℕ) → has_event left_then ≡ false → GivesEvent Start (GivesXa New t log_pos_then left_then) event []
    to_failed taken fault has failed left_then end = record {
      whole = frame.whole;
      before = λ rest h. through (event ++ rest) (failed_given Now New s t log_pos log_pos_then event left frame.whole frame.before none taken fault has failed left_then rest end h);
      begins = λ rest h. (rest, refl);
    }

    module _ (taken : passes s (role_in s event) ≡ false) (place : log_pos_then ≡ header_field 13 4 event) (content : List ℕ) (is : IsTaken s (role_in s event) event content t) where
      content_given : (rest : List ℕ) → GivesXa New t log_pos_then content rest → Start rest
      content_given rest h = through rest (taken_given Now New s t log_pos log_pos_then event left frame.whole frame.before none taken place content rest is h)

      pub to_within : (x left_then : List ℕ) → content ≡ x ++ left_then → IsWholeEvent x → length x + 4 < 2 ^ 32 → GivesEvent Start (GivesXa New t log_pos_then left_then) (stamped t.has_checksum log_pos_then x) []
      to_within x left_then begins whole few = record {
        whole = stamped_whole t.has_checksum log_pos_then x whole few;
        before = λ rest h. content_given (stamped t.has_checksum log_pos_then x ++ rest) (within_given New t log_pos_then content x left_then rest begins whole h);
        begins = λ rest h. (rest, refl);
      }

      pub to_nothing : (left_then : List ℕ) → has_event content ≡ false → has_event left_then ≡ false → (b : List ℕ) → GivesXa New t log_pos_then left_then b → Start b
      to_nothing left_then empty end b h = content_given b (none_left New t log_pos_then content left_then b empty end h)

      pub to_memory : (failed : Bool) → GivesNone failed Start (GivesXa New t log_pos_then content) [] [] faults.Memory
      to_memory failed = record { none = refl; before = content_given; begins = λ rest h. (rest, refl); cause = inr (inl refl) }

-- the next event within
pub next_within : (Own : MayBe) (s : XaState) (log_pos : ℕ) (left x after : List ℕ) → left ≡ x ++ after → IsWholeEvent x → length x + 4 < 2 ^ 32 → GivesEvent (GivesXa Own s log_pos left) (GivesXa Own s log_pos after) (stamped s.has_checksum log_pos x) []
next_within Own s log_pos left x after begins whole few = record {
  whole = stamped_whole s.has_checksum log_pos x whole few;
  before = λ rest h. within_given Own s log_pos left x after rest begins whole h;
  begins = λ rest h. (rest, refl);
}
