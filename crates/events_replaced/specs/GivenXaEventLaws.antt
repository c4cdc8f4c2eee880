-- A law of each source of the events of XA transactions: it gives something.
use Rattle.std.proofs.Common.{◌≡◌, inl, inr, ℕ, ◌<◌, ◌⊎◌, Bool, true, false, suc, zero, List, [], ◌∷◌, ◌++◌, length, take, drop, Option, refl, subst, arith}
use Rattle.std.specs.List.{flat_map}
use Rattle.std.proofs.lemmas.List.{take-append-drop}
use Rattle.std.proofs.Math.ListN.{length-drop}
use Rattle.events_frames.specs.Events.{has_event, header_size_field, IsWholeEvent}
use Rattle.events_frames.specs.GivenEvents.{MayBe}
use Rattle.events_frames.proofs.SourceLemmas.{first_event, sizes}
use Rattle.events_replaced.specs.StampedEvents.{AreFirstEvents, stamped}
use Rattle.events_replaced.specs.GivenXaEvents.{IsGivenWithXa}
use Rattle.events_replaced.specs.XaStates.{XaState}
use Rattle.events_replaced.specs.XaSteps.{passed, passes, role_in}
use Rattle.events_replaced.specs.XaEventStates.{GivesBy, content_left, xa_of}
use Rattle.events_replaced.specs.declared.xa_fault.XaFault.TheVariants.{Memory}
use Rattle.events_replaced.specs.declared.xa_events.XaEvents.{XaEvents}

-- bytes that begin with an event are this event and the bytes after it, which are fewer
record BeginsWithEvent (b : List ℕ) : Type 0 where
  pub event : List ℕ
  pub rest : List ℕ
  pub joined : event ++ rest ≡ b
  pub whole : IsWholeEvent event
  pub fewer : length rest < length b

begins_with : (b : List ℕ) → has_event b ≡ true → BeginsWithEvent b
begins_with b h =
    let n = header_size_field b in
    let s = sizes b h in
    record { event = take n b; rest = drop n b; joined = take-append-drop n b; whole = first_event b n h refl; fewer = omega (arith, s.1, s.2, length-drop n b) }

either : (b : Bool) → (b ≡ true) ⊎ (b ≡ false)
either true = inl refl
either false = inr refl

-- the events of fewer bytes are known
abbrev Earlier : (List ℕ → Type 0) → ℕ → Type 0
Earlier P n = (b : List ℕ) → length b < n → P b

some_next : (b : List ℕ) → Earlier (λ b. (l : List (List ℕ)) × AreFirstEvents b l) (length b) → (l : List (List ℕ)) × AreFirstEvents b l
some_next b earlier = by (either (has_event b))
  where
    by : (has_event b ≡ true) ⊎ (has_event b ≡ false) → (l : List (List ℕ)) × AreFirstEvents b l
    by (inr none) = ([], AreFirstEvents.no_event b none)
    by (inl h) =
        let x = begins_with b h in
        let more = earlier x.rest x.fewer in
        (x.event ∷ more.0, subst (λ (bytes : List ℕ). AreFirstEvents bytes (x.event ∷ more.0)) x.joined (AreFirstEvents.one_event x.event x.rest more.0 x.whole more.1))

events_within : (n : ℕ) (b : List ℕ) → length b < n → (l : List (List ℕ)) × AreFirstEvents b l
events_within zero b few = absurd (omega (arith, few))
events_within (suc n) b few = some_next b (λ rest less. events_within n rest (omega (arith, less, few)))

-- the events that bytes begin with
pub events_in : (b : List ℕ) → (l : List (List ℕ)) × AreFirstEvents b l
events_in b = events_within (suc (length b)) b (omega arith)

given_next : (s : XaState) (b : List ℕ) → ((s : XaState) → Earlier (λ b. (given : List ℕ) × IsGivenWithXa s b given) (length b)) → (given : List ℕ) × IsGivenWithXa s b given
given_next s b earlier = by (either (has_event b))
  where
    by : (has_event b ≡ true) ⊎ (has_event b ≡ false) → (given : List ℕ) × IsGivenWithXa s b given
    by (inr none) = (b, IsGivenWithXa.given_rest s b none)
    by (inl h) = event (begins_with b h)
      where
        event : BeginsWithEvent b → (given : List ℕ) × IsGivenWithXa s b given
        event x = role (either (passes s (role_in s x.event)))
          where
            role : (passes s (role_in s x.event) ≡ true) ⊎ (passes s (role_in s x.event) ≡ false) → (given : List ℕ) × IsGivenWithXa s b given
            role (inl own) =
                let more = earlier (passed s (role_in s x.event) x.event) x.rest x.fewer in
                (x.event ++ more.0, subst (λ (bytes : List ℕ). IsGivenWithXa s bytes (x.event ++ more.0)) x.joined (IsGivenWithXa.given_own s x.event x.rest more.0 x.whole own more.1))
            role (inr taken) = (x.event ++ x.rest, subst (λ (bytes : List ℕ). IsGivenWithXa s bytes (x.event ++ x.rest)) x.joined (IsGivenWithXa.given_failed s x.event x.rest Memory x.whole taken tt))

given_within : (n : ℕ) (s : XaState) (b : List ℕ) → length b < n → (given : List ℕ) × IsGivenWithXa s b given
given_within zero s b few = absurd (omega (arith, few))
given_within (suc n) s b few = given_next s b (λ s rest less. given_within n s rest (omega (arith, less, few)))

-- something is given for any bytes
pub given_for : (s : XaState) (b : List ℕ) → (given : List ℕ) × IsGivenWithXa s b given
given_for s b = given_within (suc (length b)) s b (omega arith)

-- it gives something, whatever is left to the reader of the other source
pub some_given : {S : Type 0} (Own : S → Option (List ℕ) → MayBe) → ((s : S) (left : Option (List ℕ)) → (b : List ℕ) × Own s left b) → (s : XaEvents S) (left : Option (List ℕ)) → (b : List ℕ) × GivesBy Own s left b
some_given Own some s left =
    let own = some s.source left in
    let within = events_in (content_left s) in
    let rest = given_for (xa_of s) own.0 in
    (flat_map (stamped (xa_of s).has_checksum s.log_pos) within.0 ++ rest.0, record { within = within.0; are = within.1; own = own.0; gives = own.1; rest = rest.0; is = rest.1; joined = refl })
