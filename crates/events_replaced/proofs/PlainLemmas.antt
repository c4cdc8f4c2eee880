-- Plain events are given as they are.
use Rattle.std.proofs.Common.{◌≡◌, ℕ, ◌<◌, Bool, true, false, not, List, [], ◌++◌, length, take, drop, Option, Result, Ok, refl, sym, ap, subst, ◌∙◌, append_assoc, arith}
use Rattle.std.specs.Prelude.{◌==◌, ◌&&◌, IfOk, nat_lt}
use Rattle.std.proofs.lemmas.Bool.{eqb-true}
use Rattle.std.proofs.lemmas.List.{length-append, take-append-drop}
use Rattle.events_frames.specs.Events.{has_event, IsWholeEvent}
use Rattle.events_frames.specs.GivenEvents.{MayBe, GivesEvent, GivesOwn, calls_to_come}
use Rattle.events_frames.specs.HeaderFields.{header_field}
use Rattle.events_frames.specs.Sources.{TakesFrame, event_of, waiting_of}
use Rattle.events_frames.specs.declared.event_error.EventError.{EventError}
use Rattle.events_frames.specs.declared.event_source.EventSource.{EventSource}
use Rattle.events_frames.specs.declared.frames.NextFrame.{NextFrame}
use Rattle.events_frames.specs.declared.frames.NextFrame.TheVariants.{Event}
use Rattle.events_frames.proofs.SourceLemmas.{sizes}
use Rattle.events_replaced.specs.GivenReplacements.{GivesReplaced, checksums_after, is_description}
use Rattle.events_replaced.specs.PlainEvents.{GivesPlain, is_plain}
use Rattle.events_replaced.proofs.UnpackLemmas.{same_start, starts, to_own}

-- ---- a plain event describes no format

other_number : (n : ℕ) → (n == 2) ≡ true → (n == 15) ≡ false
other_number n h = rw (eqb-true n 2 h) refl

not_third : (a b c : Bool) → (a && not b && c) ≡ true → b ≡ false
not_third true true c h = absurd cc
not_third true false c h = refl
not_third false b c h = absurd cc

no_description : (e : List ℕ) → is_plain e ≡ true → is_description e ≡ false
no_description e h = by (header_field 4 1 e == 2) refl
  where
    by : (b : Bool) → (header_field 4 1 e == 2) ≡ b → is_description e ≡ false
    by true k = other_number (header_field 4 1 e) k
    by false k = not_third (nat_lt (header_field 4 1 e) 40) (header_field 4 1 e == 15) (not (header_field 4 1 e == 38)) (rw k at h)

pub same_checksums : (before : Bool) (e : List ℕ) → is_plain e ≡ true → before ≡ checksums_after before e
same_checksums before e h = rw (no_description e h) refl

-- ---- it is given by a log's own source, at hand

module _ (s t : EventSource) (left : Option (List ℕ)) (event : List ℕ) (whole : IsWholeEvent event) (joined : waiting_of s ≡ event ++ waiting_of t) where
  pub own_given : GivesEvent (GivesOwn s left) (GivesOwn t left) event (waiting_of t)
  own_given = record {
    whole = whole;
    before = λ rest h. (h.0, ap (λ (l : List ℕ). event ++ l) h.1 ∙ sym (append_assoc event (waiting_of t) h.0) ∙ ap (λ (l : List ℕ). l ++ h.0) (sym joined), h.2);
    begins = λ rest h. (h.0, h.1);
  }

  pub fewer_to_come : (reads : ℕ) → calls_to_come t reads < calls_to_come s reads
  fewer_to_come reads =
      let long = (sizes event whole.whole).0 in
      omega (arith, ap length joined, length-append event (waiting_of t), long)

module _ (s t : EventSource) (old new : Option (List ℕ)) (len : ℕ) (r : Result NextFrame EventError) (whole : IsWholeEvent (take len (waiting_of s))) where
  pub at_hand : has_event (waiting_of s) ≡ true
  at_hand = subst (λ (l : List ℕ). has_event l ≡ true) (take-append-drop len (waiting_of s)) (starts (take len (waiting_of s)) (drop len (waiting_of s)) whole).0

  pub whole_event : r ≡ Ok Event → IfOk r (TakesFrame old new (waiting_of s) (event_of t) (waiting_of t)) → IsWholeEvent (event_of t)
  whole_event ok takes = let h : TakesFrame old new (waiting_of s) (event_of t) (waiting_of t) Event = rw ok at takes in h.is

  pub plain_taken : is_plain (take len (waiting_of s)) ≡ true → waiting_of s ≡ event_of t ++ waiting_of t → IsWholeEvent (event_of t) → GivesPlain (GivesOwn s old) (GivesOwn t old) (event_of t) (waiting_of t)
  plain_taken plain joined is =
      let same : take len (waiting_of s) ≡ event_of t = (same_start (take len (waiting_of s)) (drop len (waiting_of s)) (event_of t) (waiting_of t) whole is (take-append-drop len (waiting_of s) ∙ joined)).0 in
      record { plain = subst (λ (e : List ℕ). is_plain e ≡ true) same plain; gives = own_given s t old (event_of t) is joined }

-- ---- and by a source that replaces others

pub plain_given : (Old New : MayBe) (has_checksum : Bool) (log_pos : ℕ) (left event waiting : List ℕ) → has_event left ≡ false → GivesPlain Old New event waiting → GivesPlain (GivesReplaced Old has_checksum log_pos left) (GivesReplaced New has_checksum log_pos left) event []
plain_given Old New has_checksum log_pos left event waiting none h = record {
  plain = h.plain;
  gives = to_own (GivesReplaced Old has_checksum log_pos left) Old New has_checksum log_pos left none (λ b given. given) event waiting h.gives has_checksum (same_checksums has_checksum event h.plain) log_pos left none;
}
