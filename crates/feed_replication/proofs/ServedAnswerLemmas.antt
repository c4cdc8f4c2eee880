-- The answer of a server, one event after the other.
use Rattle.std.proofs.Common.{◌≡◌, inl, inr, ℕ, ◌<◌, ◌≤◌, Bool, true, false, List, [], ◌∷◌, ◌++◌, length, drop, map, Option, Some, None, refl, sym, ap, subst, ◌∙◌, arith, eqb}
use Rattle.std.specs.Prelude.{if◌then◌else◌}
use Rattle.std.specs.Option.{option_or}
use Rattle.events_frames.specs.Events.{IsWholeEvent, has_event, is_broken}
use Rattle.events_frames.specs.Frames.{IsFrame, EndsWithoutEvent}
use Rattle.events_frames.specs.Sources.{IsWaitingCause}
use Rattle.events_frames.specs.declared.event_error.EventError.{EventError}
use Rattle.std.specs.Io.KnownBytes.{Consumes, Appends, append_known}
use Rattle.wire_packets.specs.Framing.{framing, next_sequence_id}
use Rattle.feed_transactions.specs.FeedStates.{IsErrorFor}
use Rattle.feed_checks.specs.ReadVerdicts.{frame_verdict}
use Rattle.feed_checks.specs.declared.verdict.Verdict.{Verdict}
use Rattle.feed_checks.specs.declared.verdict.Verdict.TheVariants as verdicts
use Rattle.feed_checks.specs.EventFields.{Event}
use Rattle.feed_transactions.specs.Rules.{Rules, up_to_fault, fault_after}
use Rattle.feed_checks.specs.LogFormat.{EventsEnd, NoBytes, PartOfEvent, end_of, events, events_end, joined}
use Rattle.feed_checks.proofs.EventLemmas.{events-whole, events-none}
use Rattle.feed_replication.specs.PrefixLists.{prefix_while, from_first_failing}
use Rattle.feed_replication.specs.declared.format.PayloadFormat.{PayloadFormat as Format}
use Rattle.feed_replication.specs.Streams.{payload_of}
use Rattle.feed_replication.specs.declared.served.Served.TheVariants.{Whole, Fault}
use Rattle.feed_replication.specs.Serving.{Answer, nothing_sent, broken_end, closing_payload, closed_by, outcome_of, fits, fitting_payloads}
use Rattle.feed_replication.specs.SendingSteps.{ServesBy}
use Rattle.feed_replication.specs.SendingSteps.{IsSendError, damage_in_rest, payloads_of_rest, sent_of_rest, sent_with_description}
use Rattle.feed_transactions.specs.InterruptedWrites.{IsInterruptedWrite}
use Rattle.feed_transactions.specs.Waiting.{WritesSome}
use Rattle.feed_replication.specs.WaitingPackets.{IsWaitingSendError}
use Rattle.feed_transactions.proofs.WaitingLemmas.{Extends, all_written, some_written, none_wait}
use Rattle.feed_replication.proofs.SendingLemmas.{led_by, IsClosed, Continues, serves_more, serves_written, exit_begun, exit_waiting, exit_nothing, exit_ended, exit_last, exit_write, exit_last_write, exit_damage, exit_frame}

-- ---- the remaining bytes

pub events_end-whole : (e x : List ℕ) → IsWholeEvent e → events_end (e ++ x) ≡ events_end x
events_end-whole e x w = ap end_of (ap (λ (l : List Event). drop (length (joined l)) (e ++ x)) (events-whole e x w) ∙ after e (joined (events x)) x)
  where
    after : (e j x : List ℕ) → drop (length (e ++ j)) (e ++ x) ≡ drop (length j) x
    after [] j x = refl
    after (y ∷ e) j x = after e j x

-- how bytes end that don't begin with an event
pub events_end-none : (y : List ℕ) → has_event y ≡ false → events_end y ≡ end_of y
events_end-none y h = ap (λ (l : List Event). end_of (drop (length (joined l)) y)) (events-none y h)

pub end-fine : (y : List ℕ) → is_broken y ≡ false → broken_end (end_of y) ≡ None
end-fine y h = rw h (either (eqb (length y) 0))
  where
    either : (b : Bool) → broken_end (if b then NoBytes else PartOfEvent) ≡ None
    either true = refl
    either false = refl

pub end-broken : (y : List ℕ) → is_broken y ≡ true → broken_end (end_of y) ≡ Some verdicts.Frame
end-broken y h = rw h refl

-- ---- payloads within the limit

abbrev cut_by : Bool → ℕ → List ℕ → List (List ℕ) → Option Verdict → Answer
cut_by b limit p ps d = record { payloads = elim b [ true ↦ p ∷ prefix_while (fits limit) ps | false ↦ [] ]; outcome = outcome_of (elim b [ true ↦ from_first_failing (fits limit) ps | false ↦ p ∷ ps ]) d }

pub fitting_payloads-fits : (limit : ℕ) (p : List ℕ) (ps : List (List ℕ)) (d : Option Verdict) → fits limit p ≡ true → fitting_payloads limit (p ∷ ps) d ≡ led_by p (fitting_payloads limit ps d)
fitting_payloads-fits limit p ps d h = ap (λ (b : Bool). cut_by b limit p ps d) h

pub fitting_payloads-long : (limit : ℕ) (p : List ℕ) (ps : List (List ℕ)) (d : Option Verdict) → fits limit p ≡ false → fitting_payloads limit (p ∷ ps) d ≡ nothing_sent (Fault verdicts.TooLarge)
fitting_payloads-long limit p ps d h = ap (λ (b : Bool). cut_by b limit p ps d) h

pub fitting_payloads-closed : (limit : ℕ) (ps : List (List ℕ)) (d : Option Verdict) → (fitting_payloads limit (ps ++ closed_by d) d).outcome ≡ Whole → 0 < length (fitting_payloads limit (ps ++ closed_by d) d).payloads
fitting_payloads-closed limit [] (Some v) h = absurd cc
fitting_payloads-closed limit [] None h = either (fits limit closing_payload) h
  where
    either : (b : Bool) → (cut_by b limit closing_payload [] None).outcome ≡ Whole → 0 < length (cut_by b limit closing_payload [] None).payloads
    either true h = omega arith
    either false h = absurd cc
fitting_payloads-closed limit (p ∷ ps) d h = either (fits limit p) h
  where
    either : (b : Bool) → (cut_by b limit p (ps ++ closed_by d) d).outcome ≡ Whole → 0 < length (cut_by b limit p (ps ++ closed_by d) d).payloads
    either true h = omega arith
    either false h = absurd cc

-- ---- one more event

up_to_fault-next : (r : Rules) (past : List Event) (e : Event) (l : List Event) → r.damage past e ≡ None → up_to_fault r.damage past (e ∷ l) ≡ e ∷ up_to_fault r.damage (e ∷ past) l
unfolding up_to_fault
up_to_fault-next r past e l h = rw (h, up_to_fault) refl

pub fault_after-next : (r : Rules) (past : List Event) (e : Event) (l : List Event) → r.damage past e ≡ None → fault_after r.damage past (e ∷ l) ≡ fault_after r.damage (e ∷ past) l
unfolding fault_after
fault_after-next r past e l h = rw (h, fault_after) refl

up_to_fault-stop : (r : Rules) (past : List Event) (e : Event) (l : List Event) (v : Verdict) → r.damage past e ≡ Some v → up_to_fault r.damage past (e ∷ l) ≡ []
unfolding up_to_fault
up_to_fault-stop r past e l v h = rw (h, up_to_fault) refl

pub fault_after-stop : (r : Rules) (past : List Event) (e : Event) (l : List Event) (v : Verdict) → r.damage past e ≡ Some v → fault_after r.damage past (e ∷ l) ≡ Some v
unfolding fault_after
fault_after-stop r past e l v h = rw (h, fault_after) refl

up_to_fault-nil : (r : Rules) (past : List Event) → up_to_fault r.damage past [] ≡ []
unfolding up_to_fault
up_to_fault-nil r past = refl

pub fault_after-nil : (r : Rules) (past : List Event) → fault_after r.damage past [] ≡ None
unfolding fault_after
fault_after-nil r past = refl

-- ---- from the position on

-- the answer by the events and their damage
abbrev sent_by : Format → ℕ → List Event → Option Verdict → Answer
sent_by format limit good d = fitting_payloads limit (map (payload_of format) good ++ closed_by d) d

module _ (r : Rules) (format : Format) (limit : ℕ) (past : List Event) where
  is_sent : (x : List ℕ) → sent_of_rest r format limit past x ≡ sent_by format limit (up_to_fault r.damage past (events x)) (option_or (fault_after r.damage past (events x)) (broken_end (events_end x)))
  unfolding sent_of_rest
  is_sent x = refl

  -- the answer by the events and what follows them
  sent_as : (x : List ℕ) (l : List Event) (end : EventsEnd) (good : List Event) (f : Option Verdict) → events x ≡ l → events_end x ≡ end → up_to_fault r.damage past l ≡ good → fault_after r.damage past l ≡ f
      → sent_of_rest r format limit past x ≡ sent_by format limit good (option_or f (broken_end end))
  sent_as x l end good f p q g h =
      is_sent x
      ∙ ap (λ (m : List Event). sent_by format limit (up_to_fault r.damage past m) (option_or (fault_after r.damage past m) (broken_end (events_end x)))) p
      ∙ ap (λ (z : EventsEnd). sent_by format limit (up_to_fault r.damage past l) (option_or (fault_after r.damage past l) (broken_end z))) q
      ∙ ap (λ (m : List Event). sent_by format limit m (option_or (fault_after r.damage past l) (broken_end end))) g
      ∙ ap (λ (o : Option Verdict). sent_by format limit good (option_or o (broken_end end))) h

  pub fitting_payloads-closes : IsClosed (sent_of_rest r format limit past)
  unfolding sent_of_rest
  fitting_payloads-closes x = fitting_payloads-closed limit (map (payload_of format) (up_to_fault r.damage past (events x))) (damage_in_rest r past x)

  module _ (e : Event) (whole : IsWholeEvent e) where
    -- a sound event within the limit is sent
    pub fitting_payloads-next : r.damage past e ≡ None → fits limit (payload_of format e) ≡ true → (x : List ℕ) → sent_of_rest r format limit past (e ++ x) ≡ led_by (payload_of format e) (sent_of_rest r format limit (e ∷ past) x)
    unfolding sent_of_rest
    fitting_payloads-next h fit x =
        sent_as (e ++ x) (e ∷ events x) (events_end x) (e ∷ up_to_fault r.damage (e ∷ past) (events x)) (fault_after r.damage (e ∷ past) (events x)) (events-whole e x whole) (events_end-whole e x whole) (up_to_fault-next r past e (events x) h) (fault_after-next r past e (events x) h)
        ∙ fitting_payloads-fits limit (payload_of format e) (payloads_of_rest r format (e ∷ past) x) (damage_in_rest r (e ∷ past) x) fit

    -- an event past the limit isn't sent
    pub fitting_payloads-too_large : r.damage past e ≡ None → fits limit (payload_of format e) ≡ false → (x : List ℕ) → sent_of_rest r format limit past (e ++ x) ≡ nothing_sent (Fault verdicts.TooLarge)
    unfolding sent_of_rest
    fitting_payloads-too_large h fit x =
        sent_as (e ++ x) (e ∷ events x) (events_end x) (e ∷ up_to_fault r.damage (e ∷ past) (events x)) (fault_after r.damage (e ∷ past) (events x)) (events-whole e x whole) (events_end-whole e x whole) (up_to_fault-next r past e (events x) h) (fault_after-next r past e (events x) h)
        ∙ fitting_payloads-long limit (payload_of format e) (payloads_of_rest r format (e ∷ past) x) (damage_in_rest r (e ∷ past) x) fit

    -- a damaged event isn't sent
    pub fitting_payloads-damaged : (v : Verdict) → r.damage past e ≡ Some v → (x : List ℕ) → sent_of_rest r format limit past (e ++ x) ≡ nothing_sent (Fault v)
    fitting_payloads-damaged v h x = sent_as (e ++ x) (e ∷ events x) (events_end x) [] (Some v) (events-whole e x whole) (events_end-whole e x whole) (up_to_fault-stop r past e (events x) v h) (fault_after-stop r past e (events x) v h)

  module _ (y : List ℕ) (none : has_event y ≡ false) where
    ended_as : (o : Option Verdict) → broken_end (end_of y) ≡ o → sent_of_rest r format limit past y ≡ sent_by format limit [] o
    ended_as o h =
        sent_as y [] (end_of y) [] None (events-none y none) (events_end-none y none) (up_to_fault-nil r past) (fault_after-nil r past)
        ∙ ap (λ (z : Option Verdict). sent_by format limit [] z) h

    -- the closing payload is sent at the end
    pub fitting_payloads-end : is_broken y ≡ false → fits limit closing_payload ≡ true → sent_of_rest r format limit past y ≡ led_by closing_payload (nothing_sent Whole)
    fitting_payloads-end fine fit = ended_as None (end-fine y fine) ∙ fitting_payloads-fits limit closing_payload [] None fit

    pub fitting_payloads-end_too_large : is_broken y ≡ false → fits limit closing_payload ≡ false → sent_of_rest r format limit past y ≡ nothing_sent (Fault verdicts.TooLarge)
    fitting_payloads-end_too_large fine fit = ended_as None (end-fine y fine) ∙ fitting_payloads-long limit closing_payload [] None fit

    -- it isn't sent after a broken header
    pub fitting_payloads-broken : is_broken y ≡ true → sent_of_rest r format limit past y ≡ nothing_sent (Fault verdicts.Frame)
    fitting_payloads-broken h = ended_as (Some verdicts.Frame) (end-broken y h)

  -- ---- the format description that is sent first

  pub led-none : (x : List ℕ) → sent_with_description r format limit None past x ≡ sent_of_rest r format limit past x
  unfolding sent_with_description sent_of_rest
  led-none x = refl

  pub led-next : (d : Event) → fits limit (payload_of format d) ≡ true → (x : List ℕ) → sent_with_description r format limit (Some d) past x ≡ led_by (payload_of format d) (sent_of_rest r format limit past x)
  unfolding sent_with_description sent_of_rest
  led-next d fit x = fitting_payloads-fits limit (payload_of format d) (payloads_of_rest r format past x) (damage_in_rest r past x) fit

  pub led-too_large : (d : Event) → fits limit (payload_of format d) ≡ false → (x : List ℕ) → sent_with_description r format limit (Some d) past x ≡ nothing_sent (Fault verdicts.TooLarge)
  unfolding sent_with_description
  led-too_large d fit x = fitting_payloads-long limit (payload_of format d) (payloads_of_rest r format past x) (damage_in_rest r past x) fit

-- ---- the state of a server that sends

-- Events were sent, and the answer for the remaining bytes follows.
pub record HasSent (r : Rules) (format : Format) (limit : ℕ) (Holds : List Event → Type 0) (a : List ℕ → Answer) (k : ℕ) (old was : Option (List ℕ)) (n : ℕ) (mid wrote : Option (List ℕ)) : Type 0 where
  pub past : List Event
  pub holds : Holds past
  pub leads : Continues a k old was (sent_of_rest r format limit past) n mid wrote

pub sent_none : (r : Rules) (format : Format) (limit : ℕ) (Holds : List Event → Type 0) (past : List Event) (k : ℕ) (old was : Option (List ℕ)) → Holds past → HasSent r format limit Holds (sent_of_rest r format limit past) k old was k old was
sent_none r format limit Holds past k old was h = record { past = past; holds = h; leads = λ rest now v s. s }

pub fit : (limit : ℕ) (p : List ℕ) → length p ≤ limit → fits limit p ≡ true
fit limit p h = search (arith, h)

pub unfit : (limit : ℕ) (p : List ℕ) → limit < length p → fits limit p ≡ false
unfit limit p h = search (arith, h)

module _ (r : Rules) (format : Format) (limit : ℕ) (Holds Then : List Event → Type 0) (a : List ℕ → Answer) (k : ℕ) (old was : Option (List ℕ)) (n : ℕ) (mid wrote : Option (List ℕ)) (h : HasSent r format limit Holds a k old was n mid wrote) where
  -- one more event was sent
  pub sent_more : (next now : Option (List ℕ)) (e : Event) (m : ℕ) → IsFrame mid next e → r.damage h.past e ≡ None → length (payload_of format e) ≤ limit → Appends wrote now (framing n (payload_of format e)) → m ≡ next_sequence_id n (payload_of format e) → Then (e ∷ h.past)
      → HasSent r format limit Then a k old was m next now
  sent_more next now e m frame sound fitting w number holding = record {
    past = e ∷ h.past;
    holds = holding;
    leads = λ rest last v s. h.leads rest last v (serves_more (sent_of_rest r format limit h.past) (sent_of_rest r format limit (e ∷ h.past)) n e (payload_of format e) (fitting_payloads-next r format limit h.past e frame.is sound (fit limit (payload_of format e) fitting)) mid next rest wrote now last v frame.consumed w
        (subst (λ (i : ℕ). ServesBy (sent_of_rest r format limit (e ∷ h.past)) i next rest now last v) number s));
  }

  -- the waiting packets were written
  abbrev pub sent_written : (now : Option (List ℕ)) → Appends wrote now [] → HasSent r format limit Holds a k old was n mid now
  sent_written now w = record { past = h.past; holds = h.holds; leads = λ rest last v s. h.leads rest last v (serves_written (sent_of_rest r format limit h.past) n mid rest wrote now last v w s) }

  -- the writer fails before anything more is written
  sent_begun : (rest : Option (List ℕ)) → ServesBy a k old rest was wrote (Fault verdicts.Write)
  sent_begun rest = h.leads rest wrote (Fault verdicts.Write) (exit_begun (sent_of_rest r format limit h.past) n mid rest wrote)

  pub sent_event_exit : (next rest now : Option (List ℕ)) (e : Event) (failed : Bool) (v : Verdict) → IsFrame mid next e → r.damage h.past e ≡ None → IsSendError wrote now limit n (payload_of format e) failed v → ServesBy a k old rest was now (Fault v)
  sent_event_exit next rest now e failed v frame sound (inl x) =
      h.leads rest now (Fault v) (subst (λ (o : Option (List ℕ)). ServesBy (sent_of_rest r format limit h.past) n mid rest wrote o (Fault v)) (sym x.2) (rw x.0 (exit_nothing (sent_of_rest r format limit h.past) n mid next rest wrote e (Fault verdicts.TooLarge) tt (fitting_payloads-too_large r format limit h.past e frame.is sound (unfit limit (payload_of format e) x.1)) frame.consumed)))
  sent_event_exit next rest now e failed v frame sound (inr x) =
      h.leads rest now (Fault v) (exit_write (sent_of_rest r format limit h.past) n mid next rest wrote now e (payload_of format e) (sent_of_rest r format limit (e ∷ h.past)) failed v (fitting_payloads-next r format limit h.past e frame.is sound (fit limit (payload_of format e) x.0)) frame.consumed x.1)

  -- it is damaged
  pub sent_damage_exit : (next rest : Option (List ℕ)) (e : Event) (after : List ℕ) (v : Verdict) → IsFrame mid next e → Consumes next rest after → IsErrorFor (r.damage h.past e) v → ServesBy a k old rest was wrote (Fault v)
  sent_damage_exit next rest e after v frame later why =
      h.leads rest wrote (Fault v) (exit_damage (sent_of_rest r format limit h.past) n (fitting_payloads-closes r format limit h.past) mid next rest wrote e after (r.damage h.past e) v (λ w is. fitting_payloads-damaged r format limit h.past e frame.is w is) frame.consumed later why)

  -- no event could be read
  pub sent_frame_exit : (next : Option (List ℕ)) (taken : List ℕ) (failed : Bool) (fault : EventError) → Consumes mid next taken → IsWaitingCause failed taken fault → ServesBy a k old next was wrote (Fault (frame_verdict fault))
  sent_frame_exit next taken failed fault p f =
      h.leads next wrote (Fault (frame_verdict fault)) (exit_frame (sent_of_rest r format limit h.past) n (fitting_payloads-closes r format limit h.past) mid next wrote taken failed fault (λ y none broken. fitting_payloads-broken r format limit h.past y none broken) p f)

  -- no event remains
  pub sent_whole : (next now : Option (List ℕ)) (taken : List ℕ) → EndsWithoutEvent mid next taken → 5 ≤ limit → Appends wrote now (framing n closing_payload) → ServesBy a k old next was now Whole
  sent_whole next now taken e fitting w =
      h.leads next now Whole (exit_last (sent_of_rest r format limit h.past) n mid next wrote now taken closing_payload Whole tt (fitting_payloads-end r format limit h.past taken e.no_event e.not_broken (fit limit closing_payload fitting)) e.consumed e.at_end w)

  pub sent_end_exit : (next now : Option (List ℕ)) (taken : List ℕ) (failed : Bool) (v : Verdict) → EndsWithoutEvent mid next taken → IsSendError wrote now limit n closing_payload failed v → ServesBy a k old next was now (Fault v)
  sent_end_exit next now taken failed v e (inl x) =
      h.leads next now (Fault v) (subst (λ (o : Option (List ℕ)). ServesBy (sent_of_rest r format limit h.past) n mid next wrote o (Fault v)) (sym x.2) (rw x.0 (exit_ended (sent_of_rest r format limit h.past) n mid next wrote taken (Fault verdicts.TooLarge) tt (fitting_payloads-end_too_large r format limit h.past taken e.no_event e.not_broken (unfit limit closing_payload x.1)) e.consumed e.at_end)))
  sent_end_exit next now taken failed v e (inr x) =
      h.leads next now (Fault v) (exit_last_write (sent_of_rest r format limit h.past) n mid next wrote now taken closing_payload (nothing_sent Whole) failed v (fitting_payloads-end r format limit h.past taken e.no_event e.not_broken (fit limit closing_payload x.0)) e.consumed e.at_end x.1)

-- ---- waiting packets

module _ (r : Rules) (format : Format) (limit : ℕ) (Holds : List Event → Type 0) (a : List ℕ → Answer) (k : ℕ) (old was : Option (List ℕ)) (n : ℕ) (mid wrote : Option (List ℕ)) (packets : List ℕ) (h : HasSent r format limit Holds a k old was n mid (append_known wrote packets)) (g : Extends was wrote) where
  -- the writer failed in them
  pub waiting_exit : (rest now : Option (List ℕ)) (failed : Bool) (v : Verdict) → IsInterruptedWrite wrote now packets failed v → ServesBy a k old rest was now (Fault v)
  waiting_exit rest now failed v cut = exit_waiting a k old rest was wrote now packets failed v g (sent_begun r format limit Holds Holds a k old was n mid (append_known wrote packets) h rest) cut

  -- some of them were written
  abbrev pub waiting_written : (now : Option (List ℕ)) (after : List ℕ) → WritesSome wrote now packets [] after → HasSent r format limit Holds a k old was n mid (append_known now after)
  waiting_written now after w = sent_written r format limit Holds Holds a k old was n mid (append_known wrote packets) h (append_known now after) (some_written wrote now packets [] after w)

  -- there are none
  abbrev pub none_waiting : packets ≡ [] → HasSent r format limit Holds a k old was n mid wrote
  none_waiting e = sent_written r format limit Holds Holds a k old was n mid (append_known wrote packets) h wrote (none_wait wrote packets e)

  -- they were written
  abbrev written : (now : Option (List ℕ)) → Appends wrote now packets → HasSent r format limit Holds a k old was n mid now
  written now w = sent_written r format limit Holds Holds a k old was n mid (append_known wrote packets) h now (all_written wrote now packets w)

  -- an event wasn't sent after them
  pub waiting_event_exit : (next rest now : Option (List ℕ)) (e : Event) (failed : Bool) (v : Verdict) → IsFrame mid next e → r.damage h.past e ≡ None → IsWaitingSendError wrote now packets limit n (payload_of format e) failed v → ServesBy a k old rest was now (Fault v)
  waiting_event_exit next rest now e failed v frame sound (inl x) = waiting_exit rest now failed v x
  waiting_event_exit next rest now e failed v frame sound (inr x) = sent_event_exit r format limit Holds Holds a k old was n mid x.mid (written x.mid x.written) next rest now e failed v frame sound x.unsent

  -- an event is damaged
  pub waiting_damage_exit : (next rest now : Option (List ℕ)) (e : Event) (after : List ℕ) (v : Verdict) → IsFrame mid next e → Consumes next rest after → IsErrorFor (r.damage h.past e) v → Appends wrote now packets → ServesBy a k old rest was now (Fault v)
  waiting_damage_exit next rest now e after v frame later why w = sent_damage_exit r format limit Holds Holds a k old was n mid now (written now w) next rest e after v frame later why
