-- Serving from the start: nothing is lost, and it stops at damage.
use Rattle.std.proofs.Common.{◌≡◌, ℕ, suc, ◌≤◌, Bool, true, false, List, [], ◌∷◌, ◌++◌, length, take, drop, map, All, Option, Some, None, refl, sym, ap, subst, ◌∙◌, arith}
use Rattle.std.specs.Option.{option_or}
use Rattle.std.proofs.lemmas.Bool.Decides.{Decides-eqb}
use Rattle.std.proofs.lemmas.Slice.Eq.{slice_eq-Decides}
use Rattle.std.proofs.lemmas.List.{append-nil, take-append-drop}
use Rattle.wire_packets.specs.Framing.{framings}
use Rattle.wire_packets.specs.Packets.{packets}
use Rattle.wire_packets.proofs.PacketLemmas.{framings_read}
use Rattle.events_frames.specs.Events.{IsWholeEvent}
use Rattle.feed_checks.specs.declared.verdict.Verdict.{Verdict}
use Rattle.feed_checks.specs.declared.verdict.Verdict.TheVariants as verdicts
use Rattle.feed_checks.specs.PastLists.{first, onto}
use Rattle.feed_checks.specs.EventFields.{Event, in_force}
use Rattle.feed_checks.specs.Kinds.{kind_of, kinds}
use Rattle.feed_checks.specs.Damage.{body_fault, outer_fault, is_body_checked, damage_of}
use Rattle.feed_transactions.specs.Checks.{context_fault, rows_fault, inner_fault, fault_of}
use Rattle.feed_transactions.specs.ReportLaws.{Each}
use Rattle.feed_transactions.specs.Rules.{Rules, Judge, rules, up_to_fault, fault_after, shown_after, shown, first_fault}
use Rattle.feed_transactions.specs.Transactions.{Transaction}
use Rattle.feed_checks.specs.LogFormat.{AreEvents, EventsEnd, NoBytes, BadFrame, PartOfEvent, magic_number, has_magic_number}
use Rattle.feed_transactions.specs.Reports.{Report, file_events, file_end, end_verdict, verdict_or, file_transactions, file_verdict}
use Rattle.feed_checks.proofs.EventLemmas.{events-law}
use Rattle.feed_replication.specs.PrefixLists.{prefix_while, from_first_failing}
use Rattle.feed_replication.specs.declared.format.PayloadFormat.{PayloadFormat as Format}
use Rattle.feed_replication.specs.declared.format.PayloadFormat.TheVariants.{Plain, SemiSync}
use Rattle.feed_replication.specs.Streams.{holds_event, event_in, payload_of, event_payloads, events_of, verdict_of_other, stream_events, stream_transactions, stream_verdict}
use Rattle.feed_replication.proofs.StreamLemmas.{payload-holds, event-back}
use Rattle.feed_replication.specs.declared.served.Served.TheVariants.{Fault}
use Rattle.feed_replication.specs.Serving.{Answer, broken_end, closing_payload, closed_by, outcome_of, fits, fitting_payloads, sent_events, damage_from, answer, answer_bytes}
use Rattle.feed_replication.specs.SendingSteps.{sent_of_rest}
use Rattle.feed_replication.specs.ServerLaws.{ServesTheFile, StopsAtDamage}
use Rattle.feed_replication.proofs.ServedAnswerLemmas.{fit, led-none}
use Rattle.feed_replication.proofs.SeekLemmas.{events_within-zero, file-with_magic, answer-arrived}

-- ---- payloads within the limit

prefix_while-all : {A : Type 0} (p : A → Bool) (xs : List A) → Each (λ x. p x ≡ true) xs → (prefix_while p xs ≡ xs) × (from_first_failing p xs ≡ [])
prefix_while-all p [] h = (refl, refl)
prefix_while-all {A = A} p (x ∷ xs) h = let k = prefix_while-all p xs h.1 in (rw (prefix_while, h.0) (ap (λ (t : List A). x ∷ t) k.0), rw (from_first_failing, h.0) k.1)

prefix_while-stop : {A : Type 0} (p : A → Bool) (xs : List A) (y : A) (ys : List A) → Each (λ x. p x ≡ true) xs → p y ≡ false → (prefix_while p (xs ++ y ∷ ys) ≡ xs) × (from_first_failing p (xs ++ y ∷ ys) ≡ y ∷ ys)
prefix_while-stop p [] y ys h n = (rw (prefix_while, n) refl, rw (from_first_failing, n) refl)
prefix_while-stop {A = A} p (x ∷ xs) y ys h n = let k = prefix_while-stop p xs y ys h.1 n in (rw (prefix_while, h.0) (ap (λ (t : List A). x ∷ t) k.0), rw (from_first_failing, h.0) k.1)

each-fits : (limit : ℕ) (ps : List (List ℕ)) → All (λ p. length p ≤ limit) ps → Each (λ p. fits limit p ≡ true) ps
each-fits limit [] h = tt
each-fits limit (p ∷ ps) h = (fit limit p (h 0 p (omega arith)), each-fits limit ps (λ k d l. h (suc k) d (omega (arith, l))))

fitting_payloads-all : (limit : ℕ) (ps : List (List ℕ)) (d : Option Verdict) → All (λ p. length p ≤ limit) ps → fitting_payloads limit ps d ≡ record { payloads = ps; outcome = outcome_of [] d }
fitting_payloads-all limit ps d h = let k = prefix_while-all (fits limit) ps (each-fits limit ps h) in rw (k.0, k.1) refl

-- ---- payloads of whole events

payloads-hold : (format : Format) (l : List Event) → AreEvents l → Each (λ p. holds_event format p ≡ true) (map (payload_of format) l)
payloads-hold format [] w = tt
payloads-hold format (e ∷ l) w = (payload-holds format e w.0, payloads-hold format l w.1)

closing-holds-none : (format : Format) → holds_event format closing_payload ≡ false
unfolding holds_event
closing-holds-none Plain = refl
closing-holds-none SemiSync = refl

events-back : (format : Format) (l : List Event) → map (event_in format) (map (payload_of format) l) ≡ l
events-back format [] = refl
events-back format (e ∷ l) = ap (λ (x : Event). x ∷ map (event_in format) (map (payload_of format) l)) (event-back format e) ∙ ap (λ (t : List Event). e ∷ t) (events-back format l)

events_of-closed : (format : Format) (l : List Event) → AreEvents l → (events_of format (map (payload_of format) l ++ closing_payload ∷ []) ≡ l) × (verdict_of_other format (map (payload_of format) l ++ closing_payload ∷ []) ≡ Some verdicts.End)
unfolding event_payloads verdict_of_other
events_of-closed format l w =
    let k = prefix_while-stop (holds_event format) (map (payload_of format) l) closing_payload [] (payloads-hold format l w) (closing-holds-none format) in
    (ap (map (event_in format)) k.0 ∙ events-back format l, rw k.1 refl)

events_of-all : (format : Format) (l : List Event) → AreEvents l → events_of format (map (payload_of format) l) ≡ l
unfolding event_payloads
events_of-all format l w = ap (map (event_in format)) (prefix_while-all (holds_event format) (map (payload_of format) l) (payloads-hold format l w)).0 ∙ events-back format l

-- ---- from the start

with_magic_is : (b : List ℕ) → has_magic_number b ≡ true → b ≡ magic_number ++ drop 4 b
with_magic_is b h =
    let is : magic_number ≡ take 4 b = (slice_eq-Decides Decides-eqb magic_number (take 4 b) true (sym h)).0 refl in
    sym (take-append-drop 4 b) ∙ ap (λ (t : List ℕ). t ++ drop 4 b) (sym is)

start : (r : Rules) (format : Format) (limit : ℕ) (b : List ℕ) → has_magic_number b ≡ true → answer r format limit b 4 ≡ sent_of_rest r format limit [] (drop 4 b)
start r format limit b h =
    ap (λ (x : List ℕ). answer r format limit x 4) (with_magic_is b h)
    ∙ file-with_magic r format limit 4 (omega arith) (drop 4 b)
    ∙ answer-arrived r format limit 4 [] 4 (drop 4 b) (omega arith) refl
    ∙ led-none r format limit [] (drop 4 b)

abbrev sent_by : Format → ℕ → List Event → Option Verdict → Answer
sent_by format limit good d = fitting_payloads limit (map (payload_of format) good ++ closed_by d) d

start_by : (r : Rules) (format : Format) (limit : ℕ) (b : List ℕ) (good : List Event) (d : Option Verdict) → has_magic_number b ≡ true → up_to_fault r.damage [] (file_events b) ≡ good → option_or (fault_after r.damage [] (file_events b)) (broken_end (file_end b)) ≡ d
    → answer r format limit b 4 ≡ sent_by format limit good d
unfolding sent_of_rest
start_by r format limit b good d m g e =
    start r format limit b m
    ∙ ap (λ (l : List Event). sent_by format limit l (option_or (fault_after r.damage [] (file_events b)) (broken_end (file_end b)))) g
    ∙ ap (λ (o : Option Verdict). sent_by format limit good o) e

with_magic : {A : Type 0} (t : Bool) (x y : A) → t ≡ true → (elim t [ true ↦ x | false ↦ y ]) ≡ x
with_magic true x y h = refl
with_magic false x y h = absurd cc

ends : (e : EventsEnd) → broken_end e ≡ None → end_verdict e ≡ verdicts.End
ends NoBytes h = refl
ends PartOfEvent h = refl
ends BadFrame h = absurd cc

abbrev fault_or : Option Verdict → Option Verdict → Option Verdict
fault_or f o = elim o [ None ↦ f | Some v ↦ Some v ]

abbrev good_or : Event → List Event → Option Verdict → List Event
good_or e l o = elim o [ None ↦ e ∷ l | Some v ↦ [] ]

either_good : (e : Event) (l xs : List Event) (o f : Option Verdict) → fault_or f o ≡ None → (f ≡ None → xs ≡ l) → good_or e xs o ≡ e ∷ l
either_good e l xs None f h k = ap (λ (t : List Event). e ∷ t) (k h)
either_good e l xs (Some v) f h k = absurd cc

all-good : (judge : Judge) (past l : List Event) → fault_after judge past l ≡ None → up_to_fault judge past l ≡ l
unfolding fault_after up_to_fault
all-good judge past [] h = refl
all-good judge past (e ∷ l) h = either_good e l (up_to_fault judge (e ∷ past) l) (judge past e) (fault_after judge (e ∷ past) l) h (all-good judge (e ∷ past) l)

pub serves-the-file : (r : Rules) (format : Format) (limit reading : ℕ) (b : List ℕ) → ServesTheFile r format limit reading b
unfolding stream_transactions stream_verdict file_transactions file_verdict
serves-the-file r format limit reading b m f n i j =
    let l = file_events b in
    let ps : List (List ℕ) = map (payload_of format) (file_events b) ++ closing_payload ∷ [] in
    let none : option_or (fault_after r.damage [] (file_events b)) (broken_end (file_end b)) ≡ None = ap (λ (o : Option Verdict). option_or o (broken_end (file_end b))) f ∙ n in
    let a : answer_bytes (answer r format limit b 4) ≡ framings 1 ps = ap answer_bytes (start_by r format limit b (file_events b) None m (all-good r.damage [] (file_events b) f) none ∙ fitting_payloads-all limit ps None i) in
    let are : packets reading 1 (answer_bytes (answer r format limit b 4)) ≡ ps = ap (packets reading 1) a ∙ (framings_read reading 1 ps j).0 in
    let w = events_of-closed format l (events-law (drop 4 b)).0 in
    let e : events_of format (packets reading 1 (answer_bytes (answer r format limit b 4))) ≡ l = ap (events_of format) are ∙ w.0 in
    let c : verdict_of_other format (packets reading 1 (answer_bytes (answer r format limit b 4))) ≡ Some verdicts.End = ap (verdict_of_other format) are ∙ w.1 in
    let ts : stream_transactions r format reading (answer_bytes (answer r format limit b 4)) ≡ file_transactions r b = ap (shown r) e ∙ sym (with_magic (has_magic_number b) (shown r l) [] m) in
    let v : stream_verdict r format reading (answer_bytes (answer r format limit b 4)) ≡ file_verdict r b =
    rw (e, c) (ap (verdict_or (first_fault r l)) (sym (ends (file_end b) n))) ∙ sym (with_magic (has_magic_number b) (verdict_or (first_fault r l) (end_verdict (file_end b))) verdicts.Mark m) in
    ap (λ (t : List Transaction). let q : Report = record { transactions = t; verdict = stream_verdict r format reading (answer_bytes (answer r format limit b 4)) } in q) ts
    ∙ ap (λ (x : Verdict). let q : Report = record { transactions = file_transactions r b; verdict = x } in q) v

-- ---- up to damage

-- damage is a fault
abbrev IsMild : Rules → Type 0
IsMild r = (past : List Event) (e : Event) → r.fault past e ≡ None → r.damage past e ≡ None

abbrev or_else : Option Verdict → Option Verdict → Option Verdict
or_else o p = elim o [ Some v ↦ Some v | None ↦ p ]

passes : (o p : Option Verdict) → or_else o p ≡ None → (o ≡ None) × (p ≡ None)
passes None p h = (refl, h)
passes (Some v) p h = absurd cc

body_first : (b p q : Option Verdict) → first (b ∷ p ∷ q ∷ []) ≡ None → b ≡ None
body_first None p q h = refl
body_first (Some v) p q h = absurd cc

abbrev looked : Bool → Option Verdict → Option Verdict
looked t b = elim t [ true ↦ b | false ↦ None ]

if_looked : (t : Bool) (b : Option Verdict) → b ≡ None → looked t b ≡ None
if_looked true b h = h
if_looked false b h = refl

mild : (f : List ℕ → ℕ) → IsMild (rules f)
unfolding fault_of damage_of
mild f past e h =
    let t = passes (outer_fault f e (in_force past)) (inner_fault (kinds past) (kind_of e (in_force past))) h in
    let b = if_looked (is_body_checked e) (body_fault (kind_of e (in_force past))) (body_first (body_fault (kind_of e (in_force past))) (context_fault (kinds past) (kind_of e (in_force past))) (rows_fault (kinds past) (kind_of e (in_force past))) t.1) in
    ap (λ (o : Option Verdict). or_else o (looked (is_body_checked e) (body_fault (kind_of e (in_force past))))) t.0 ∙ b

kept-good : (judge : Judge) (past : List Event) (e : Event) (l x : List Event) (o p : Option Verdict) → judge past e ≡ o → (o ≡ None → p ≡ None) → up_to_fault judge (e ∷ past) x ≡ up_to_fault judge (e ∷ past) l
    → up_to_fault judge past (elim p [ None ↦ e ∷ x | Some v ↦ [] ]) ≡ (elim o [ None ↦ e ∷ up_to_fault judge (e ∷ past) l | Some v ↦ [] ])
unfolding up_to_fault
kept-good judge past e l x None None h m k = rw (up_to_fault, h) (ap (λ (y : List Event). e ∷ y) k)
kept-good judge past e l x (Some v) None h m k = rw (up_to_fault, h) refl
kept-good judge past e l x None (Some w) h m k = absurd (no w (m refl))
  where
    no : (w : Verdict) → Some w ≡ None → ⊥
    no w q = cc
kept-good judge past e l x (Some v) (Some w) h m k = refl

-- what is sent up to damage has the same faults
good-of-fitting_payloads : (r : Rules) (past l : List Event) → IsMild r → up_to_fault r.fault past (up_to_fault r.damage past l) ≡ up_to_fault r.fault past l
unfolding up_to_fault
good-of-fitting_payloads r past [] mild = refl
good-of-fitting_payloads r past (e ∷ l) mild = kept-good r.fault past e l (up_to_fault r.damage (e ∷ past) l) (r.fault past e) (r.damage past e) refl (mild past e) (good-of-fitting_payloads r (e ∷ past) l mild)

either_whole : (e : Event) (l : List Event) (o : Option Verdict) → IsWholeEvent e → AreEvents l → AreEvents (good_or e l o)
either_whole e l None w h = (w, h)
either_whole e l (Some v) w h = tt

good-whole : (judge : Judge) (past l : List Event) → AreEvents l → AreEvents (up_to_fault judge past l)
unfolding up_to_fault
good-whole judge past [] w = tt
good-whole judge past (e ∷ l) w = either_whole e (up_to_fault judge (e ∷ past) l) (judge past e) w.0 (good-whole judge (e ∷ past) l w.1)

fitting_payloads-start : (r : Rules) (b : List ℕ) → sent_events r b 4 ≡ up_to_fault r.damage [] (file_events b)
fitting_payloads-start r b = ap (λ (x : List Event). up_to_fault r.damage (onto [] x) (drop (length x) (file_events b))) (events_within-zero (file_events b))

damage-start : (r : Rules) (b : List ℕ) → damage_from r b 4 ≡ option_or (fault_after r.damage [] (file_events b)) (broken_end (file_end b))
damage-start r b = ap (λ (x : List Event). option_or (fault_after r.damage (onto [] x) (drop (length x) (file_events b))) (broken_end (file_end b))) (events_within-zero (file_events b))

pub stops-at-damage : (f : List ℕ → ℕ) (format : Format) (limit reading : ℕ) (b : List ℕ) (v : Verdict) → StopsAtDamage (rules f) format limit reading b v
unfolding stream_transactions file_transactions
stops-at-damage f format limit reading b v m d hl hr =
    let good = sent_events (rules f) b 4 in
    let ps : List (List ℕ) = map (payload_of format) (sent_events (rules f) b 4) in
    let is = fitting_payloads-start (rules f) b in
    let w : AreEvents (sent_events (rules f) b 4) = subst AreEvents (sym is) (good-whole (damage_of f) [] (file_events b) (events-law (drop 4 b)).0) in
    let e : answer (rules f) format limit b 4 ≡ record { payloads = map (payload_of format) (sent_events (rules f) b 4); outcome = Fault v } =
    start_by (rules f) format limit b (sent_events (rules f) b 4) (Some v) m (sym is) (sym (damage-start (rules f) b) ∙ d)
    ∙ ap (λ (qs : List (List ℕ)). fitting_payloads limit qs (Some v)) (append-nil (map (payload_of format) (sent_events (rules f) b 4)))
    ∙ fitting_payloads-all limit ps (Some v) hl in
    let events_are : stream_events format reading (answer_bytes (answer (rules f) format limit b 4)) ≡ sent_events (rules f) b 4 =
    ap (λ (a : Answer). stream_events format reading (answer_bytes a)) e ∙ ap (events_of format) (framings_read reading 1 ps hr).0 ∙ events_of-all format (sent_events (rules f) b 4) w in (
      ap (λ (a : Answer). a.payloads) e,
      ap (λ (a : Answer). a.outcome) e,
      ap (shown (rules f)) (events_are ∙ is) ∙ ap (shown_after (rules f) []) (good-of-fitting_payloads (rules f) [] (file_events b) (mild f)) ∙ sym (with_magic (has_magic_number b) (shown (rules f) (file_events b)) [] m),
    )
