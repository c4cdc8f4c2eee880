-- What a follower gets of an answer.
use Rattle.std.proofs.Common.{◌≡◌, ℕ, zero, suc, ◌≤◌, Bool, true, false, ◌⊎◌, inl, inr, List, [], ◌∷◌, ◌++◌, length, take, map, All, Option, Some, None, refl, sym, ap, subst, ◌∙◌, append_assoc, arith}
use Rattle.std.proofs.lemmas.List.{append-nil}
use Rattle.wire_packets.specs.Framing.{framings}
use Rattle.wire_packets.specs.Packets.{packets}
use Rattle.wire_packets.proofs.PacketLemmas.{framings_read}
use Rattle.events_frames.specs.Events.{IsWholeEvent}
use Rattle.feed_checks.specs.declared.verdict.Verdict.{Verdict}
use Rattle.feed_checks.specs.PastLists.{onto}
use Rattle.feed_checks.specs.EventFields.{Event}
use Rattle.feed_checks.specs.Kinds.{kinds}
use Rattle.feed_transactions.specs.Checks.{fault_of}
use Rattle.feed_transactions.specs.ReportLaws.{Each, IsBetween}
use Rattle.feed_transactions.specs.Rules.{Rules, rules, up_to_fault, shown_after, shown}
use Rattle.feed_transactions.specs.Transactions.{Transaction}
use Rattle.feed_transactions.proofs.RuleLemmas.{AreGood, shown-seen, shown-append}
use Rattle.feed_transactions.proofs.BetweenLemmas.{between-like, shows-like}
use Rattle.feed_checks.specs.LogFormat.{AreEvents}
use Rattle.feed_replication.specs.PrefixLists.{prefix_while, from_first_failing}
use Rattle.feed_replication.specs.declared.format.PayloadFormat.{PayloadFormat as Format}
use Rattle.feed_replication.specs.declared.format.PayloadFormat.TheVariants.{Plain, SemiSync}
use Rattle.feed_replication.specs.Streams.{holds_event, event_in, payload_of, event_payloads, events_of, stream_events}
use Rattle.feed_replication.proofs.StreamLemmas.{payload-holds, event-back}
use Rattle.feed_replication.specs.declared.served.Served.{Served}
use Rattle.feed_replication.specs.Serving.{nothing_sent, rejection_or_fault, description_before, sent_events, damage_from, closing_payload, closed_by, all_payloads, fits, fitting_payloads, answer, answer_bytes}
use Rattle.feed_replication.proofs.ServedAnswerLemmas.{fit}
use Rattle.feed_replication.proofs.PrefixLemmas.{IsPrefix, packets-prefix}
use Rattle.feed_replication.proofs.PositionLemmas.{prefixes, After, Shorter}
use Rattle.feed_replication.proofs.ResumeLemmas.{Leads}

-- ---- payloads within the limit

pub prefix_while-all : {A : Type 0} (p : A → Bool) (xs : List A) → Each (λ x. p x ≡ true) xs → (prefix_while p xs ≡ xs) × (from_first_failing p xs ≡ [])
prefix_while-all p [] h = (refl, refl)
prefix_while-all {A = A} p (x ∷ xs) h = let k = prefix_while-all p xs h.1 in (rw (prefix_while, h.0) (ap (λ (t : List A). x ∷ t) k.0), rw (from_first_failing, h.0) k.1)

pub each-fits : (limit : ℕ) (ps : List (List ℕ)) → All (λ p. length p ≤ limit) ps → Each (λ p. fits limit p ≡ true) ps
each-fits limit [] h = tt
each-fits limit (p ∷ ps) h = (fit limit p (h 0 p (omega arith)), each-fits limit ps (λ k d l. h (suc k) d (omega (arith, l))))

pub closing-holds-none : (format : Format) → holds_event format closing_payload ≡ false
unfolding holds_event
closing-holds-none Plain = refl
closing-holds-none SemiSync = refl

-- a whole event whose payload is within the limit
abbrev pub Fits : ℕ → Format → Event → Type 0
Fits limit format e = IsWholeEvent e × (length (payload_of format e) ≤ limit)

pub fits-of : (limit : ℕ) (format : Format) (l : List Event) (c : List (List ℕ)) → AreEvents l → All (λ p. length p ≤ limit) (map (payload_of format) l ++ c) → Each (Fits limit format) l
fits-of limit format [] c w h = tt
fits-of limit format (e ∷ l) c w h = ((w.0, h 0 [] (omega arith)), fits-of limit format l c w.1 (λ i d q. h (suc i) d (omega (arith, q))))

pub closing-fits : (limit : ℕ) (format : Format) (l : List Event) → All (λ p. length p ≤ limit) (map (payload_of format) l ++ closing_payload ∷ []) → length closing_payload ≤ limit
closing-fits limit format [] h = h 0 [] (omega arith)
closing-fits limit format (e ∷ l) h = closing-fits limit format l (λ i d q. h (suc i) d (omega (arith, q)))

pub all-cons : (limit : ℕ) (x : List ℕ) (xs : List (List ℕ)) → length x ≤ limit → All (λ p. length p ≤ limit) xs → All (λ p. length p ≤ limit) (x ∷ xs)
all-cons limit x xs p h zero d q = p
all-cons limit x xs p h (suc i) d q = h i d (omega (arith, q))

abbrev pub AllFit : ℕ → List (List ℕ) → Type 0
AllFit limit ps = All (λ p. length p ≤ limit) ps

pub all-none : (limit : ℕ) → AllFit limit []
all-none limit i d q = absurd (omega (arith, q))

pub all-closed : (limit : ℕ) (damage : Option Verdict) → length closing_payload ≤ limit → AllFit limit (closed_by damage)
all-closed limit None h = all-cons limit closing_payload [] h (all-none limit)
all-closed limit (Some v) h = all-none limit

pub all-fit : (limit : ℕ) (format : Format) (l : List Event) (c : List (List ℕ)) → Each (Fits limit format) l → All (λ p. length p ≤ limit) c → All (λ p. length p ≤ limit) (map (payload_of format) l ++ c)
all-fit limit format [] c h k = k
all-fit limit format (e ∷ l) c h k = all-cons limit (payload_of format e) (map (payload_of format) l ++ c) h.0.1 (all-fit limit format l c h.1 k)

-- ---- events of payloads

-- no prefix of these has an event
abbrev pub NoEvents : Format → List (List ℕ) → Type 0
NoEvents format c = (qs more : List (List ℕ)) → c ≡ qs ++ more → event_payloads format qs ≡ []

closed-none : (format : Format) (damage : Option Verdict) → NoEvents format (closed_by damage)
unfolding event_payloads
closed-none format damage [] more e = refl
closed-none format (Some v) (q ∷ qs) more e = absurd (no e)
  where
    no : [] ≡ q ∷ (qs ++ more) → ⊥
    no h = cc
closed-none format None (q ∷ qs) more e =
    let h : closing_payload ≡ q = cc in
    let n : holds_event format q ≡ false = ap (holds_event format) (sym h) ∙ closing-holds-none format in
    rw (prefix_while, n) refl

prefix-events : (format : Format) (l : List Event) (c qs more : List (List ℕ)) → Each IsWholeEvent l → NoEvents format c → map (payload_of format) l ++ c ≡ qs ++ more → IsPrefix (events_of format qs) l
unfolding event_payloads
prefix-events format [] c qs more w n e = ([], sym (ap (λ (ps : List (List ℕ)). map (event_in format) ps ++ []) (n qs more e)))
prefix-events format (x ∷ l) c [] more w n e = (x ∷ l, refl)
prefix-events format (x ∷ l) c (q ∷ qs) more w n e =
    let h : payload_of format x ≡ q = cc in
    let t : map (payload_of format) l ++ c ≡ qs ++ more = cc in
    let g = prefix-events format l c qs more w.1 n t in
    let y : holds_event format q ≡ true = ap (holds_event format) (sym h) ∙ payload-holds format x w.0 in
    let z : event_in format q ≡ x = ap (event_in format) (sym h) ∙ event-back format x in
    (g.0, rw (prefix_while, y) (rw z (ap (λ (s : List Event). x ∷ s) g.1)))

all-events : (format : Format) (l : List Event) (c : List (List ℕ)) → Each IsWholeEvent l → NoEvents format c → events_of format (map (payload_of format) l ++ c) ≡ l
unfolding event_payloads
all-events format [] c w n = ap (map (event_in format)) (n c [] (sym (append-nil c)))
all-events format (x ∷ l) c w n = rw (prefix_while, payload-holds format x w.0) (rw (event-back format x) (ap (λ (s : List Event). x ∷ s) (all-events format l c w.1 n)))

-- ---- the answer

pub answer-fitting_payloads : (r : Rules) (format : Format) (limit : ℕ) (b : List ℕ) (position : ℕ) → rejection_or_fault r b position ≡ None → All (λ p. length p ≤ limit) (all_payloads r format b position)
    → answer_bytes (answer r format limit b position) ≡ framings 1 (all_payloads r format b position)
unfolding answer
answer-fitting_payloads r format limit b position n h =
    let k = prefix_while-all (fits limit) (all_payloads r format b position) (each-fits limit (all_payloads r format b position) h) in
    ap (λ (o : Option Served). answer_bytes (elim o [ Some s ↦ nothing_sent s | None ↦ fitting_payloads limit (all_payloads r format b position) (damage_from r b position) ])) n
    ∙ ap (framings 1) k.0

pub answer-failed : (r : Rules) (format : Format) (limit : ℕ) (b : List ℕ) (position : ℕ) (s : Served) → rejection_or_fault r b position ≡ Some s → answer_bytes (answer r format limit b position) ≡ []
unfolding answer framings
answer-failed r format limit b position s n =
    ap (λ (o : Option Served). answer_bytes (elim o [ Some s ↦ nothing_sent s | None ↦ fitting_payloads limit (all_payloads r format b position) (damage_from r b position) ])) n

pub Each-wholes : (limit : ℕ) (format : Format) (l : List Event) → Each (Fits limit format) l → Each IsWholeEvent l
Each-wholes limit format [] h = tt
Each-wholes limit format (e ∷ l) h = (h.0.0, Each-wholes limit format l h.1)

-- the events in an answer's payloads
abbrev pub led_events : Rules → List ℕ → ℕ → List Event
led_events r b position = description_before b position ++ sent_events r b position

-- a prefix of an answer holds a prefix of its events
pub stream-prefix : (r : Rules) (format : Format) (limit reading : ℕ) (b : List ℕ) (position c : ℕ) → rejection_or_fault r b position ≡ None → Each (Fits limit format) (led_events r b position) → Each (Fits reading format) (led_events r b position)
    → length closing_payload ≤ limit → length closing_payload ≤ reading → IsPrefix (stream_events format reading (take c (answer_bytes (answer r format limit b position)))) (led_events r b position)
stream-prefix r format limit reading b position c n h k x y =
    let close : List (List ℕ) = closed_by (damage_from r b position) in
    let a = answer-fitting_payloads r format limit b position n (all-fit limit format (led_events r b position) close h (all-closed limit (damage_from r b position) x)) in
    let g = packets-prefix reading (length (take c (framings 1 (all_payloads r format b position)))) 1 c (all_payloads r format b position) (all-fit reading format (led_events r b position) close k (all-closed reading (damage_from r b position) y)) in
    let P : List ℕ → Type 0 = λ s. IsPrefix (stream_events format reading (take c s)) (led_events r b position) in
    subst P (sym a) (prefix-events format (led_events r b position) close (packets reading 1 (take c (framings 1 (all_payloads r format b position)))) g.0 (Each-wholes limit format (led_events r b position) h) (closed-none format (damage_from r b position)) g.1)

-- the whole answer holds all of its events
pub stream-whole : (r : Rules) (format : Format) (limit reading : ℕ) (b : List ℕ) (position : ℕ) → rejection_or_fault r b position ≡ None → Each (Fits limit format) (led_events r b position) → Each (Fits reading format) (led_events r b position)
    → length closing_payload ≤ limit → length closing_payload ≤ reading → stream_events format reading (answer_bytes (answer r format limit b position)) ≡ led_events r b position
stream-whole r format limit reading b position n h k x y =
    let close : List (List ℕ) = closed_by (damage_from r b position) in
    let a = answer-fitting_payloads r format limit b position n (all-fit limit format (led_events r b position) close h (all-closed limit (damage_from r b position) x)) in
    let g = framings_read reading 1 (all_payloads r format b position) (all-fit reading format (led_events r b position) close k (all-closed reading (damage_from r b position) y)) in
    ap (stream_events format reading) a ∙ ap (events_of format) g.0 ∙ all-events format (led_events r b position) close (Each-wholes limit format (led_events r b position) h) (closed-none format (damage_from r b position))

-- ---- what a stream of an answer shows

-- a prefix of an answer shows what a prefix of the events from the position on shows, after the events before it
pub record ShowsFrom (f : List ℕ → ℕ) (past m : List Event) (ts : List Transaction) : Type 0 where
  pub first : List Event
  pub rest : List Event
  pub split : m ≡ first ++ rest
  pub shows : ts ≡ shown_after (rules f) past (up_to_fault (fault_of f) past first)

pub no-more : {A : Type 0} (x y : List A) → x ++ y ≡ [] → x ≡ []
no-more [] y h = refl
no-more (a ∷ x) y h = absurd (no h)
  where
    no : a ∷ (x ++ y) ≡ [] → ⊥
    no e = cc

-- after the leading description events show what they show after the events before them
pub shown-led : (f : List ℕ → ℕ) (past led l : List Event) → Leads f past led → IsBetween (kinds past) → shown (rules f) (led ++ l) ≡ shown_after (rules f) past (up_to_fault (fault_of f) past l)
shown-led f past led l h b =
    shown-seen (rules f) led l h.good
    ∙ ap (λ (ts : List Transaction). ts ++ shown_after (rules f) (onto [] led) (up_to_fault (fault_of f) (onto [] led) l)) h.shows
    ∙ shows-like f (onto [] led) past l (between-like (onto [] led) past h.force h.between b)

-- an answer that begins with D and ends with an event that isn't sent
pub prefix-shows : (f : List ℕ → ℕ) (past led m x more s t : List Event) → Leads f past led → IsBetween (kinds past) → AreGood (fault_of f) [] led → shown_after (rules f) [] led ≡ [] → m ≡ s ++ t → led ++ s ≡ x ++ more
    → ShowsFrom f past m (shown (rules f) x)
unfolding shown_after up_to_fault
prefix-shows f past led m x more s t h b g z is e = either (prefixes x more led s (sym e))
  where
    either : After x more led s ⊎ Shorter x led → ShowsFrom f past m (shown (rules f) x)
    either (inl w) = record { first = w.0; rest = more ++ t; split = is ∙ ap (λ (y : List Event). y ++ t) w.2 ∙ append_assoc w.0 more t; shows = ap (shown (rules f)) w.1 ∙ shown-led f past led w.0 h b }
    either (inr w) =
        let k = shown-append (rules f) x (w.0 ∷ w.1) in
        let none : shown (rules f) led ≡ [] = ap (shown (rules f)) (sym (append-nil led)) ∙ shown-led f past led [] h b in
        record { first = []; rest = m; split = refl; shows = no-more (shown (rules f) x) k.0 (sym k.1 ∙ ap (shown (rules f)) (sym w.2) ∙ none) }
