-- Facts about streams, for any rules and any format: payloads and events in sequence, and how a stream ends.
use Rattle.std.proofs.Common.{◌≡◌, ℕ, ◌+◌, ◌≤◌, Bool, true, false, List, [], ◌∷◌, ◌++◌, length, take, drop, map, Option, Some, None, refl, sym, ap, ◌∙◌, append_assoc, length-append, arith}
use Rattle.std.specs.Prelude.{◌&&◌, ◌==◌, nat_le, slice_index, option_map, filter}
use Rattle.std.proofs.lemmas.Bool.{le-leb, leb-true, eqb-true, eq-eqb}
use Rattle.std.proofs.lemmas.List.{append-nil, map-append, length-map}
use Rattle.std.proofs.lemmas.List.Elements.{filter-append}
use Rattle.std.proofs.Math.Seq.{take-append-add}
use Rattle.wire_packets.specs.Packets.{packets, packet_fault}
use Rattle.wire_packets.specs.CodecState as codec
use Rattle.wire_packets.specs.declared.error.PacketCodecError.{PacketCodecError}
use Rattle.wire_packets.proofs.PieceLemmas.{packets_at}
use Rattle.wire_packets.proofs.PacketLemmas.{packets_of, fault_of_packets}
use Rattle.events_frames.specs.Events.{header_size_field, IsWholeEvent}
use Rattle.feed_checks.specs.declared.verdict.Verdict.{Verdict}
use Rattle.feed_checks.specs.declared.verdict.Verdict.TheVariants as verdicts
use Rattle.feed_checks.specs.EventFields.{Event}
use Rattle.feed_checks.specs.PastLists.{onto}
use Rattle.feed_transactions.specs.ReportLaws.{Each, in_log_order}
use Rattle.feed_transactions.specs.Rules.{Rules, Judge, up_to_fault, fault_after, shown_after, good, first_fault}
use Rattle.feed_transactions.specs.TransactionTexts.{transaction_text, texts_of}
use Rattle.feed_transactions.specs.Transactions.{Transaction}
use Rattle.feed_transactions.specs.Rules.{verdict_or}
use Rattle.feed_replication.specs.PrefixLists.{prefix_while, from_first_failing}
use Rattle.feed_replication.specs.declared.format.PayloadFormat.{PayloadFormat as Format}
use Rattle.feed_replication.specs.declared.format.PayloadFormat.TheVariants.{Plain, SemiSync}
use Rattle.feed_replication.specs.Streams.{is_one_event, payload_of, holds_event, event_in, closing_verdict, packet_verdict, event_payloads, events_of, verdict_of_first, verdict_of_other, stream_events, stream_transactions, stream_verdict}
use Rattle.feed_replication.specs.Acknowledgements.{is_ack_requested, acknowledgement, requested_acks, good_payloads, acknowledgements}
use Rattle.feed_replication.specs.AnswerReaders.{AreGood, shown_in, AreGoodPayloads}
use Rattle.feed_replication.specs.AnswerSteps.{Yields, YieldsFirst}
use Rattle.feed_replication.specs.FollowingSteps.{texts_in}

-- ---- one payload, one event

prefix_while-go : {A : Type 0} (p : A → Bool) (x : A) (l : List A) → p x ≡ true → (prefix_while p (x ∷ l) ≡ x ∷ prefix_while p l) × (from_first_failing p (x ∷ l) ≡ from_first_failing p l)
prefix_while-go p x l h = (rw (prefix_while, h) refl, rw (from_first_failing, h) refl)

prefix_while-stop : {A : Type 0} (p : A → Bool) (x : A) (l : List A) → p x ≡ false → (prefix_while p (x ∷ l) ≡ []) × (from_first_failing p (x ∷ l) ≡ x ∷ l)
prefix_while-stop p x l h = (rw (prefix_while, h) refl, rw (from_first_failing, h) refl)

events_go : (format : Format) (p : List ℕ) (ps : List (List ℕ)) → holds_event format p ≡ true → events_of format (p ∷ ps) ≡ event_in format p ∷ events_of format ps
unfolding event_payloads
events_go format p ps h = ap (λ (l : List (List ℕ)). map (event_in format) l) (prefix_while-go (holds_event format) p ps h).0

events_stop : (format : Format) (p : List ℕ) (ps : List (List ℕ)) → holds_event format p ≡ false → events_of format (p ∷ ps) ≡ []
unfolding event_payloads
events_stop format p ps h = ap (λ (l : List (List ℕ)). map (event_in format) l) (prefix_while-stop (holds_event format) p ps h).0

events_end : (format : Format) → events_of format [] ≡ []
unfolding event_payloads
events_end format = refl

closing_go : (format : Format) (p : List ℕ) (ps : List (List ℕ)) → holds_event format p ≡ true → verdict_of_other format (p ∷ ps) ≡ verdict_of_other format ps
unfolding verdict_of_other
closing_go format p ps h = ap verdict_of_first (prefix_while-go (holds_event format) p ps h).1

closing_stop : (format : Format) (p : List ℕ) (ps : List (List ℕ)) → holds_event format p ≡ false → verdict_of_other format (p ∷ ps) ≡ Some (closing_verdict p)
unfolding verdict_of_other
closing_stop format p ps h = ap verdict_of_first (prefix_while-stop (holds_event format) p ps h).1

closing_end : (format : Format) → verdict_of_other format [] ≡ None
unfolding verdict_of_other
closing_end format = refl

good_go : (judge : Judge) (past : List Event) (e : Event) (l : List Event) → judge past e ≡ None → up_to_fault judge past (e ∷ l) ≡ e ∷ up_to_fault judge (e ∷ past) l
unfolding up_to_fault
good_go judge past e l h = rw (up_to_fault, h) refl

good_stop : (judge : Judge) (past : List Event) (e : Event) (l : List Event) (v : Verdict) → judge past e ≡ Some v → up_to_fault judge past (e ∷ l) ≡ []
unfolding up_to_fault
good_stop judge past e l v h = rw (up_to_fault, h) refl

good_end : (judge : Judge) (past : List Event) → up_to_fault judge past [] ≡ []
unfolding up_to_fault
good_end judge past = refl

fault_go : (judge : Judge) (past : List Event) (e : Event) (l : List Event) → judge past e ≡ None → fault_after judge past (e ∷ l) ≡ fault_after judge (e ∷ past) l
unfolding fault_after
fault_go judge past e l h = rw (fault_after, h) refl

fault_stop : (judge : Judge) (past : List Event) (e : Event) (l : List Event) (v : Verdict) → judge past e ≡ Some v → fault_after judge past (e ∷ l) ≡ Some v
unfolding fault_after
fault_stop judge past e l v h = rw (fault_after, h) refl

fault_end : (judge : Judge) (past : List Event) → fault_after judge past [] ≡ None
unfolding fault_after
fault_end judge past = refl

shown_go : (r : Rules) (past : List Event) (e : Event) (l : List Event) → shown_after r past (e ∷ l) ≡ r.shows past e ++ shown_after r (e ∷ past) l
unfolding shown_after
shown_go r past e l = refl

shown_end : (r : Rules) (past : List Event) → shown_after r past [] ≡ []
unfolding shown_after
shown_end r past = refl

-- ---- the payload of an event

and_second : (a b : Bool) → (a && b) ≡ true → b ≡ true
and_second true b h = h
and_second false b h = absurd cc

bears-one : (format : Format) (p : List ℕ) → holds_event format p ≡ true → is_one_event (event_in format p) ≡ true
unfolding holds_event
bears-one Plain p h = and_second (slice_index p 0 == 0) (is_one_event (drop 1 p)) h
bears-one SemiSync p h = and_second ((slice_index p 0 == 0) && (slice_index p 1 == 239)) (is_one_event (drop 3 p)) h

one-is : (e : Event) → is_one_event e ≡ true → (19 ≤ length e) × (header_size_field e ≡ length e)
one-is e h = both (nat_le 19 (length e)) (header_size_field e == length e) refl refl h
  where
    both : (a b : Bool) → nat_le 19 (length e) ≡ a → (header_size_field e == length e) ≡ b → (a && b) ≡ true → (19 ≤ length e) × (header_size_field e ≡ length e)
    both true true p q h = (leb-true 19 (length e) p, eqb-true (header_size_field e) (length e) q)
    both true false p q h = absurd cc
    both false b p q h = absurd cc

one-whole : (e : Event) → (19 ≤ length e) × (header_size_field e ≡ length e) → IsWholeEvent e
one-whole e h = record { whole = rw h.1 (rw (le-leb 19 (length e) h.0, le-leb (length e) (length e) (omega arith)) refl); size = h.1 }

-- its event is whole
pub payload-whole : (format : Format) (p : List ℕ) → holds_event format p ≡ true → IsWholeEvent (event_in format p)
payload-whole format p h = one-whole (event_in format p) (one-is (event_in format p) (bears-one format p h))

-- ---- payloads of events

and_first : (a b : Bool) → (a && b) ≡ true → a ≡ true
and_first true b h = refl
and_first false b h = absurd cc

whole-one : (e : Event) → IsWholeEvent e → is_one_event e ≡ true
whole-one e h = rw (and_first (nat_le 19 (length e)) (nat_le 19 (header_size_field e)) (and_first (nat_le 19 (length e) && nat_le 19 (header_size_field e)) (nat_le (header_size_field e) (length e)) h.whole), h.size) (eq-eqb (length e) (length e) refl)

pub payload-holds : (format : Format) (e : Event) → IsWholeEvent e → holds_event format (payload_of format e) ≡ true
unfolding holds_event
payload-holds Plain e h = whole-one e h
payload-holds SemiSync e h = whole-one e h

pub event-back : (format : Format) (e : Event) → event_in format (payload_of format e) ≡ e
event-back Plain e = refl
event-back SemiSync e = refl

-- ---- events after a past

good-in_log_order : (judge : Judge) (past l : List Event) → AreGood judge past → up_to_fault judge [] (in_log_order past l) ≡ in_log_order past (up_to_fault judge past l)
good-in_log_order judge [] l g = refl
good-in_log_order judge (e ∷ past) l g = good-in_log_order judge past (e ∷ l) g.1 ∙ ap (λ (x : List Event). in_log_order past x) (good_go judge past e l g.0)

fault-in_log_order : (judge : Judge) (past l : List Event) → AreGood judge past → fault_after judge [] (in_log_order past l) ≡ fault_after judge past l
fault-in_log_order judge [] l g = refl
fault-in_log_order judge (e ∷ past) l g = fault-in_log_order judge past (e ∷ l) g.1 ∙ fault_go judge past e l g.0

shown-in_log_order : (r : Rules) (past l : List Event) → shown_after r [] (in_log_order past l) ≡ shown_in r past ++ shown_after r past l
shown-in_log_order r [] l = refl
shown-in_log_order r (e ∷ past) l =
    shown-in_log_order r past (e ∷ l) ∙ ap (λ (ts : List Transaction). shown_in r past ++ ts) (shown_go r past e l) ∙ sym (append_assoc (shown_in r past) (r.shows past e) (shown_after r (e ∷ past) l))

-- the texts with one more event
pub texts_in-more : (r : Rules) (past : List Event) (e : Event) (texts : List (List ℕ)) → texts_of (r.shows past e) ≡ texts → texts_in r (e ∷ past) ≡ texts_in r past ++ texts
texts_in-more r past e texts h = map-append transaction_text (shown_in r past) (r.shows past e) ∙ ap (λ (t : List (List ℕ)). texts_in r past ++ t) h

-- ---- payloads of good events

each-snoc : {A : Type 0} (P : A → Type 0) (xs : List A) (x : A) → Each P xs → P x → Each P (xs ++ x ∷ [])
each-snoc P [] x h p = (p, tt)
each-snoc P (y ∷ xs) x h p = (h.0, each-snoc P xs x h.1 p)

onto-snoc : (past xs : List Event) (x : Event) → onto past (xs ++ x ∷ []) ≡ x ∷ onto past xs
onto-snoc past [] x = refl
onto-snoc past (y ∷ xs) x = onto-snoc (y ∷ past) xs x

in_log_order-onto : (past xs l : List Event) → in_log_order (onto past xs) l ≡ in_log_order past (xs ++ l)
in_log_order-onto past [] l = refl
in_log_order-onto past (x ∷ xs) l = in_log_order-onto (x ∷ past) xs l

pub good_none : (r : Rules) (format : Format) → AreGoodPayloads r format [] []
good_none r format = record { each = tt; events = refl; good = tt }

-- one more good event
pub good_more : (r : Rules) (format : Format) (ps : List (List ℕ)) (past : List Event) (p : List ℕ) → AreGoodPayloads r format ps past → holds_event format p ≡ true → r.fault past (event_in format p) ≡ None → AreGoodPayloads r format (ps ++ p ∷ []) (event_in format p ∷ past)
good_more r format ps past p g is none = record {
  each = each-snoc (λ q. holds_event format q ≡ true) ps p g.each is;
  events = ap (λ (l : List Event). event_in format p ∷ l) g.events ∙ sym (onto-snoc [] (map (event_in format) ps) (event_in format p)) ∙ ap (λ (l : List Event). onto [] l) (sym (map-append (event_in format) ps (p ∷ [])));
  good = (none, g.good);
}

-- payloads of events are a prefix of the event payloads, and close nothing
payloads-go : (format : Format) (ps more : List (List ℕ)) → Each (λ p. holds_event format p ≡ true) ps → event_payloads format (ps ++ more) ≡ ps ++ event_payloads format more
unfolding event_payloads
payloads-go format [] more h = refl
payloads-go format (p ∷ ps) more h = (prefix_while-go (holds_event format) p (ps ++ more) h.0).0 ∙ ap (λ (l : List (List ℕ)). p ∷ l) (payloads-go format ps more h.1)

verdict_of_payload-go : (format : Format) (ps more : List (List ℕ)) → Each (λ p. holds_event format p ≡ true) ps → verdict_of_other format (ps ++ more) ≡ verdict_of_other format more
verdict_of_payload-go format [] more h = refl
verdict_of_payload-go format (p ∷ ps) more h = closing_go format p (ps ++ more) h.0 ∙ verdict_of_payload-go format ps more h.1

-- the events of a list begin with those that were taken
past-are : (r : Rules) (format : Format) (ps : List (List ℕ)) (past l : List Event) → AreGoodPayloads r format ps past → in_log_order past l ≡ map (event_in format) ps ++ l
past-are r format ps past l g = ap (λ (x : List Event). in_log_order x l) g.events ∙ in_log_order-onto [] (map (event_in format) ps) l

events-are : (r : Rules) (format : Format) (ps more : List (List ℕ)) (past : List Event) → AreGoodPayloads r format ps past → events_of format (ps ++ more) ≡ in_log_order past (events_of format more)
events-are r format ps more past g =
    ap (λ (l : List (List ℕ)). map (event_in format) l) (payloads-go format ps more g.each) ∙ map-append (event_in format) ps (event_payloads format more) ∙ sym (past-are r format ps past (events_of format more) g)

-- ---- transactions and verdict of a stream, by its events

-- the good events
good_by : (r : Rules) (format : Format) (limit : ℕ) (s : List ℕ) (past l m : List Event) → AreGood r.fault past → stream_events format limit s ≡ in_log_order past l → up_to_fault r.fault past l ≡ m → good r (stream_events format limit s) ≡ in_log_order past m
good_by r format limit s past l m g e h = ap (λ (x : List Event). good r x) e ∙ good-in_log_order r.fault past l g ∙ ap (λ (x : List Event). in_log_order past x) h

-- what they show
pub transactions_of : (r : Rules) (format : Format) (limit : ℕ) (s : List ℕ) (past m : List Event) → good r (stream_events format limit s) ≡ in_log_order past m → stream_transactions r format limit s ≡ shown_in r past ++ shown_after r past m
unfolding stream_transactions
transactions_of r format limit s past m h = ap (λ (x : List Event). shown_after r [] x) h ∙ shown-in_log_order r past m

-- no good event follows
pub transactions_all : (r : Rules) (format : Format) (limit : ℕ) (s : List ℕ) (past : List Event) → good r (stream_events format limit s) ≡ in_log_order past [] → stream_transactions r format limit s ≡ shown_in r past
transactions_all r format limit s past h =
    transactions_of r format limit s past [] h ∙ ap (λ (ts : List Transaction). shown_in r past ++ ts) (shown_end r past) ∙ append-nil (shown_in r past)

fault_by : (r : Rules) (format : Format) (limit : ℕ) (s : List ℕ) (past l : List Event) (a : Option Verdict) → AreGood r.fault past → stream_events format limit s ≡ in_log_order past l → fault_after r.fault past l ≡ a → first_fault r (stream_events format limit s) ≡ a
fault_by r format limit s past l a g e h = ap (λ (x : List Event). first_fault r x) e ∙ fault-in_log_order r.fault past l g ∙ h

verdict_by : (r : Rules) (format : Format) (limit : ℕ) (s : List ℕ) (a b : Option Verdict) (o : Option PacketCodecError) → first_fault r (stream_events format limit s) ≡ a → verdict_of_other format (packets limit 1 s) ≡ b → packet_fault limit 1 s ≡ o
    → stream_verdict r format limit s ≡ verdict_or a (verdict_or b (verdict_or (option_map packet_verdict o) verdicts.Closed))
unfolding stream_verdict
verdict_by r format limit s a b o p q t =
    ap (λ (x : Option Verdict). verdict_or x (verdict_or (verdict_of_other format (packets limit 1 s)) (verdict_or (option_map packet_verdict (packet_fault limit 1 s)) verdicts.Closed))) p
    ∙ ap (λ (x : Option Verdict). verdict_or a (verdict_or x (verdict_or (option_map packet_verdict (packet_fault limit 1 s)) verdicts.Closed))) q
    ∙ ap (λ (x : Option PacketCodecError). verdict_or a (verdict_or b (verdict_or (option_map packet_verdict x) verdicts.Closed))) t

-- ---- acknowledgements

requested_acks-append : (format : Format) (name : List ℕ) (ps qs : List (List ℕ)) → requested_acks format name (ps ++ qs) ≡ requested_acks format name ps ++ requested_acks format name qs
requested_acks-append format name ps qs =
    ap (λ (l : List (List ℕ)). map (λ p. acknowledgement name (event_in format p)) l) (filter-append (is_ack_requested format) ps qs) ∙ map-append (λ p. acknowledgement name (event_in format p)) (filter (is_ack_requested format) ps) (filter (is_ack_requested format) qs)

-- the acknowledgements with one more payload
pub requested_acks-more : (format : Format) (name : List ℕ) (ps : List (List ℕ)) (p : List ℕ) → requested_acks format name (ps ++ p ∷ []) ≡ requested_acks format name ps ++ requested_acks format name (p ∷ [])
requested_acks-more format name ps p = requested_acks-append format name ps (p ∷ [])

-- the good payloads of a stream are those that were taken, and the good ones after them
good_payloads-by : (r : Rules) (format : Format) (ps qs : List (List ℕ)) (past m : List Event) → AreGoodPayloads r format ps past → up_to_fault r.fault past (events_of format qs) ≡ m → good_payloads r format (ps ++ qs) ≡ ps ++ take (length m) (event_payloads format qs)
good_payloads-by r format ps qs past m g h =
    let good-is : good r (events_of format (ps ++ qs)) ≡ map (event_in format) ps ++ m = ap (λ (x : List Event). good r x) (events-are r format ps qs past g) ∙ good-in_log_order r.fault past (events_of format qs) g.good ∙ ap (λ (x : List Event). in_log_order past x) h ∙ past-are r format ps past m g in
    let len : length (good r (events_of format (ps ++ qs))) ≡ length ps + length m = ap (λ (x : List Event). length x) good-is ∙ length-append (map (event_in format) ps) m ∙ ap (λ (n : ℕ). n + length m) (length-map ps (event_in format)) in
    ap (λ (n : ℕ). take n (event_payloads format (ps ++ qs))) len ∙ ap (λ (x : List (List ℕ)). take (length ps + length m) x) (payloads-go format ps qs g.each) ∙ take-append-add ps (event_payloads format qs) (length m)

acknowledged_by : (r : Rules) (format : Format) (limit : ℕ) (name s : List ℕ) (ps qs : List (List ℕ)) (past m : List Event) → AreGoodPayloads r format ps past → packets limit 1 s ≡ ps ++ qs → up_to_fault r.fault past (events_of format qs) ≡ m
    → acknowledgements r format limit name s ≡ requested_acks format name ps ++ requested_acks format name (take (length m) (event_payloads format qs))
unfolding acknowledgements
acknowledged_by r format limit name s ps qs past m g are h =
    ap (λ (x : List (List ℕ)). requested_acks format name (good_payloads r format x)) are ∙ ap (λ (x : List (List ℕ)). requested_acks format name x) (good_payloads-by r format ps qs past m g h) ∙ requested_acks-append format name ps (take (length m) (event_payloads format qs))

-- no good event follows
acknowledged_all : (r : Rules) (format : Format) (limit : ℕ) (s : List ℕ) (ps qs : List (List ℕ)) (past : List Event) → AreGoodPayloads r format ps past → packets limit 1 s ≡ ps ++ qs → up_to_fault r.fault past (events_of format qs) ≡ [] → (name : List ℕ) → acknowledgements r format limit name s ≡ requested_acks format name ps
acknowledged_all r format limit s ps qs past g are h name = acknowledged_by r format limit name s ps qs past [] g are h ∙ append-nil (requested_acks format name ps)

-- ---- how a stream ends

-- a payload that is no event ends the stream, whatever bytes follow
pub ends_closing : (r : Rules) (format : Format) (limit : ℕ) (s : List ℕ) (ps : List (List ℕ)) (past : List Event) (p g u more : List ℕ) → AreGoodPayloads r format ps past → codec.SplitsInto limit 1 s (ps ++ p ∷ []) g u → holds_event format p ≡ false → Yields r format limit (s ++ more) ps past (closing_verdict p)
ends_closing r format limit s ps past p g u more good reads isnt =
    let x = packets_at limit 1 s (ps ++ p ∷ []) g u more reads in
    let are : packets limit 1 (s ++ more) ≡ ps ++ (p ∷ x.0) = x.1 ∙ append_assoc ps (p ∷ []) x.0 in
    let stop : events_of format (p ∷ x.0) ≡ [] = events_stop format p x.0 isnt in
    let events : stream_events format limit (s ++ more) ≡ in_log_order past [] = ap (λ (q : List (List ℕ)). events_of format q) are ∙ events-are r format ps (p ∷ x.0) past good ∙ ap (λ (l : List Event). in_log_order past l) stop in
    let closes : verdict_of_other format (packets limit 1 (s ++ more)) ≡ Some (closing_verdict p) = ap (λ (q : List (List ℕ)). verdict_of_other format q) are ∙ verdict_of_payload-go format ps (p ∷ x.0) good.each ∙ closing_stop format p x.0 isnt in
    record {
      events = good_by r format limit (s ++ more) past [] [] good.good events (good_end r.fault past);
      acknowledged = acknowledged_all r format limit (s ++ more) ps (p ∷ x.0) past good are (ap (λ (l : List Event). up_to_fault r.fault past l) stop ∙ good_end r.fault past);
      verdict = verdict_by r format limit (s ++ more) None (Some (closing_verdict p)) (packet_fault limit 1 (s ++ more)) (fault_by r format limit (s ++ more) past [] None good.good events (fault_end r.fault past)) closes refl;
    }

-- an event with a fault ends the stream, whatever bytes follow
pub ends_fault : (r : Rules) (format : Format) (limit : ℕ) (s : List ℕ) (ps : List (List ℕ)) (past : List Event) (p g u more : List ℕ) (v : Verdict) → AreGoodPayloads r format ps past → codec.SplitsInto limit 1 s (ps ++ p ∷ []) g u → holds_event format p ≡ true → r.fault past (event_in format p) ≡ Some v → Yields r format limit (s ++ more) ps past v
ends_fault r format limit s ps past p g u more v good reads is why =
    let x = packets_at limit 1 s (ps ++ p ∷ []) g u more reads in
    let are : packets limit 1 (s ++ more) ≡ ps ++ (p ∷ x.0) = x.1 ∙ append_assoc ps (p ∷ []) x.0 in
    let go : events_of format (p ∷ x.0) ≡ event_in format p ∷ events_of format x.0 = events_go format p x.0 is in
    let stops : up_to_fault r.fault past (event_in format p ∷ events_of format x.0) ≡ [] = good_stop r.fault past (event_in format p) (events_of format x.0) v why in
    let events : stream_events format limit (s ++ more) ≡ in_log_order past (event_in format p ∷ events_of format x.0) = ap (λ (q : List (List ℕ)). events_of format q) are ∙ events-are r format ps (p ∷ x.0) past good ∙ ap (λ (l : List Event). in_log_order past l) go in
    record {
      events = good_by r format limit (s ++ more) past (event_in format p ∷ events_of format x.0) [] good.good events stops;
      acknowledged = acknowledged_all r format limit (s ++ more) ps (p ∷ x.0) past good are (ap (λ (l : List Event). up_to_fault r.fault past l) go ∙ stops);
      verdict = verdict_by r format limit (s ++ more) (Some v) (verdict_of_other format (packets limit 1 (s ++ more))) (packet_fault limit 1 (s ++ more)) (fault_by r format limit (s ++ more) past (event_in format p ∷ events_of format x.0) (Some v) good.good events (fault_stop r.fault past (event_in format p) (events_of format x.0) v why)) refl refl;
    }

-- no packet follows
pub rests_at : (r : Rules) (format : Format) (limit : ℕ) (s : List ℕ) (ps : List (List ℕ)) (past : List Event) (g u : List ℕ) (o : Option PacketCodecError) → AreGoodPayloads r format ps past → codec.SplitsInto limit 1 s ps g u → codec.Halts limit 1 ps g u o → Yields r format limit s ps past (verdict_or (option_map packet_verdict o) verdicts.Closed)
rests_at r format limit s ps past g u o good reads halts =
    let are : packets limit 1 s ≡ ps ++ [] = packets_of limit 1 s ps g u o reads halts ∙ sym (append-nil ps) in
    let none : events_of format [] ≡ [] = events_end format in
    let events : stream_events format limit s ≡ in_log_order past [] = ap (λ (q : List (List ℕ)). events_of format q) are ∙ events-are r format ps [] past good ∙ ap (λ (l : List Event). in_log_order past l) none in
    let closes : verdict_of_other format (packets limit 1 s) ≡ None = ap (λ (q : List (List ℕ)). verdict_of_other format q) are ∙ verdict_of_payload-go format ps [] good.each ∙ closing_end format in
    record {
      events = good_by r format limit s past [] [] good.good events (good_end r.fault past);
      acknowledged = acknowledged_all r format limit s ps [] past good are (ap (λ (l : List Event). up_to_fault r.fault past l) none ∙ good_end r.fault past);
      verdict = verdict_by r format limit s None None o (fault_by r format limit s past [] None good.good events (fault_end r.fault past)) closes (fault_of_packets limit 1 s ps g u o reads halts);
    }

-- what was taken comes first, whatever follows it
yields_first : (r : Rules) (format : Format) (limit : ℕ) (s : List ℕ) (ps qs : List (List ℕ)) (past : List Event) → AreGoodPayloads r format ps past → packets limit 1 s ≡ ps ++ qs → YieldsFirst r format limit s ps past
yields_first r format limit s ps qs past good are =
    let events : stream_events format limit s ≡ in_log_order past (events_of format qs) = ap (λ (q : List (List ℕ)). events_of format q) are ∙ events-are r format ps qs past good in
    let m : List Event = up_to_fault r.fault past (events_of format qs) in
    record {
      more = m;
      events = good_by r format limit s past (events_of format qs) m good.good events refl;
      acknowledged = λ name. (requested_acks format name (take (length m) (event_payloads format qs)), acknowledged_by r format limit name s ps qs past m good are refl);
    }

pub first_at : (r : Rules) (format : Format) (limit : ℕ) (s : List ℕ) (ps : List (List ℕ)) (past : List Event) (g u : List ℕ) → AreGoodPayloads r format ps past → codec.SplitsInto limit 1 s ps g u → YieldsFirst r format limit s ps past
first_at r format limit s ps past g u good reads =
    let x = packets_at limit 1 s ps g u [] reads in
    yields_first r format limit s ps x.0 past good (ap (λ (t : List ℕ). packets limit 1 t) (sym (append-nil s)) ∙ x.1)

-- the same before the last payload
pub first_before : (r : Rules) (format : Format) (limit : ℕ) (s : List ℕ) (ps : List (List ℕ)) (past : List Event) (p u : List ℕ) → AreGoodPayloads r format ps past → codec.SplitsInto limit 1 s (ps ++ p ∷ []) [] u → YieldsFirst r format limit s ps past
first_before r format limit s ps past p u good reads =
    let x = packets_at limit 1 s (ps ++ p ∷ []) [] u [] reads in
    yields_first r format limit s ps (p ∷ x.0) past good (ap (λ (t : List ℕ). packets limit 1 t) (sym (append-nil s)) ∙ x.1 ∙ append_assoc ps (p ∷ []) x.0)
