-- The last commit line of a text has the position of the last transaction.
use Rattle.std.proofs.Common.{◌≡◌, ℕ, zero, suc, ◌+◌, ◌-◌, ◌/◌, ◌<◌, ◌^◌, Bool, true, false, inl, inr, List, [], ◌∷◌, ◌++◌, length, take, drop, map, Option, Some, None, option_map, nat_eq, nat_lt, refl, sym, subst, arith}
use Rattle.std.specs.Prelude.{if◌then◌else◌, option_to_list}
use Rattle.std.proofs.lemmas.Bool.{cases_Bool, leb-true}
use Rattle.wire_buf.specs.Encoding.{AreBytes}
use Rattle.wire_packets.specs.Framing.{max_chunk_len, framing, next_sequence_id}
use Rattle.wire_packets.specs.Reading.{payload_len_at, has_chunk_of, chunk_payload, after_chunk}
use Rattle.wire_packets.specs.Packets.{payload_in, packets_in, packets}
use Rattle.rows_constants.specs.EventTypes.{event_type_number as number}
use Rattle.rows_constants.specs.declared.event_type.EventType.TheVariants as event
use Rattle.feed_checks.specs.PastLists.{is_among, onto, when}
use Rattle.feed_checks.specs.EventFields.{Event, type_of, is_description}
use Rattle.feed_checks.specs.declared.verdict.Verdict.{Verdict}
use Rattle.feed_transactions.specs.ReportLaws.{Each}
use Rattle.feed_transactions.specs.Rules.{Rules, Report, rules, good, shown}
use Rattle.feed_transactions.specs.Transactions.{Transaction}
use Rattle.feed_transactions.specs.Reports.{file_events}
use Rattle.feed_replication.specs.PrefixLists.{prefix_while}
use Rattle.feed_replication.specs.declared.format.PayloadFormat.{PayloadFormat as Format}
use Rattle.feed_replication.specs.declared.format.PayloadFormat.TheVariants.{Plain, SemiSync}
use Rattle.feed_replication.specs.declared.served.Served.{Served}
use Rattle.feed_replication.specs.Streams.{program_limit, payload_of, holds_event, event_in, event_payloads, stream_events, stream_transactions, stream_report}
use Rattle.feed_replication.specs.Positions.{events_within, events_before, past_at, events_from}
use Rattle.feed_replication.specs.Serving.{Answer, newest_description, description_before, sent_events, damage_from, rejection_or_fault, closed_by, all_payloads, nothing_sent, fits, fitting_payloads, answer}
use Rattle.feed_replication.specs.declared.step.Step.{Step}
use Rattle.feed_replication.specs.Runs.{resume_position, step_stream, is_fault_verdict, grown, next_report, run_back, run}
use Rattle.feed_replication.proofs.PositionLemmas.{Each-prefix, Each-append}
use Rattle.feed_replication.proofs.PrefixLemmas.{packets-prefix}
use Rattle.feed_replication.proofs.ReceivedAnswerLemmas.{AllFit, all-cons, all-none}
use Rattle.feed_replication.proofs.RunLemmas.{up_to_fault-begins}
use Rattle.binlog_feed.specs.Lines.{HasLines}
use Rattle.binlog_feed.specs.LastCommits.{EndsWithLastCommit}
use Rattle.binlog_feed.proofs.FeedLemmas.{shown-has}
use Rattle.binlog_feed.proofs.TruncationLemmas.{FitsPosition, kept-all}
use Rattle.binlog_feed.proofs.RepairLemmas.{Bytes, bytes-each, bytes-drop, file-bytes, fit-of-bytes}

bytes-take : (n : ℕ) (l : List ℕ) → Bytes l → Bytes (take n l)
bytes-take zero l h = tt
bytes-take (suc n) [] h = tt
bytes-take (suc n) (c ∷ l) h = (h.0, bytes-take n l h.1)

bytes-append : (a b : List ℕ) → Bytes a → Bytes b → Bytes (a ++ b)
bytes-append [] b h k = k
bytes-append (c ∷ a) b h k = (h.0, bytes-append a b h.1 k)

-- ---- the payloads of a stream

-- a payload, if there is one, is bytes
abbrev AreBytesIfAny : Option (List ℕ) → Type 0
AreBytesIfAny None = Unit {0}
AreBytesIfAny (Some p) = Bytes p

after-bytes : (c : List ℕ) (o : Option (List ℕ)) → Bytes c → AreBytesIfAny o → AreBytesIfAny (option_map (λ more. c ++ more) o)
after-bytes c None h k = tt
after-bytes c (Some p) h k = bytes-append c p h k

payload-bytes : (n limit k before : ℕ) (s : List ℕ) → Bytes s → AreBytesIfAny (payload_in n limit k before s)
unfolding payload_in
payload-bytes zero limit k before s h = tt
payload-bytes (suc n) limit k before s h =
    elim (cases_Bool (has_chunk_of k limit before s)) [
      | inr f ↦ subst AreBytesIfAny (sym (no f)) tt
      | inl t ↦ elim (cases_Bool (nat_eq (payload_len_at s) max_chunk_len)) [
        | inl full ↦ subst AreBytesIfAny (sym (more t full)) (after-bytes (chunk_payload s) (payload_in n limit (k + 1) (before + max_chunk_len) (after_chunk s)) here (payload-bytes n limit (k + 1) (before + max_chunk_len) (after_chunk s) (bytes-drop (4 + payload_len_at s) s h)))
        | inr short ↦ subst AreBytesIfAny (sym (last t short)) here
      ]
    ]
  where
    here : Bytes (chunk_payload s)
    here = bytes-take (payload_len_at s) (drop 4 s) (bytes-drop 4 s h)

    no : has_chunk_of k limit before s ≡ false → payload_in (suc n) limit k before s ≡ None
    no f = rw f refl

    more : has_chunk_of k limit before s ≡ true → nat_eq (payload_len_at s) max_chunk_len ≡ true → payload_in (suc n) limit k before s ≡ option_map (λ more. chunk_payload s ++ more) (payload_in n limit (k + 1) (before + max_chunk_len) (after_chunk s))
    more t full = rw (t, full) refl

    last : has_chunk_of k limit before s ≡ true → nat_eq (payload_len_at s) max_chunk_len ≡ false → payload_in (suc n) limit k before s ≡ Some (chunk_payload s)
    last t short = rw (t, short) refl

-- one more packet
more-packets : (n limit k : ℕ) (s : List ℕ) (o : Option (List ℕ)) → AreBytesIfAny o → ((p : List ℕ) → Each Bytes (packets_in n limit (next_sequence_id k p) (drop (length (framing k p)) s)))
    → Each Bytes (elim o [ None ↦ [] | Some p ↦ p ∷ packets_in n limit (next_sequence_id k p) (drop (length (framing k p)) s) ])
more-packets n limit k s None h go = tt
more-packets n limit k s (Some p) h go = (h, go p)

packets_in-bytes : (n limit k : ℕ) (s : List ℕ) → Bytes s → Each Bytes (packets_in n limit k s)
unfolding packets_in
packets_in-bytes zero limit k s h = tt
packets_in-bytes (suc n) limit k s h = more-packets n limit k s (payload_in (suc (limit / max_chunk_len)) limit k 0 s) (payload-bytes (suc (limit / max_chunk_len)) limit k 0 s h)
    (λ p. packets_in-bytes n limit (next_sequence_id k p) (drop (length (framing k p)) s) (bytes-drop (length (framing k p)) s h))

-- the payloads of a stream of bytes are bytes
pub packets-bytes : (limit k : ℕ) (s : List ℕ) → Bytes s → Each Bytes (packets limit k s)
packets-bytes limit k s h = packets_in-bytes (length s) limit k s h

-- ---- the events of a stream

event-bytes : (format : Format) (p : List ℕ) → Bytes p → Bytes (event_in format p)
event-bytes Plain p h = bytes-drop 1 p h
event-bytes SemiSync p h = bytes-drop 3 p h

one-event : (format : Format) (p : List ℕ) (ps : List (List ℕ)) (is_event : Bool) → Bytes p → Each Bytes (map (event_in format) (prefix_while (holds_event format) ps))
    → Each Bytes (map (event_in format) (elim is_event [ true ↦ p ∷ prefix_while (holds_event format) ps | false ↦ [] ]))
one-event format p ps true h k = (event-bytes format p h, k)
one-event format p ps false h k = tt

events-bytes : (format : Format) (ps : List (List ℕ)) → Each Bytes ps → Each Bytes (map (event_in format) (prefix_while (holds_event format) ps))
events-bytes format [] h = tt
events-bytes format (p ∷ ps) h = one-event format p ps (holds_event format p) h.0 (events-bytes format ps h.1)

stream-bytes : (format : Format) (limit : ℕ) (s : List ℕ) → Bytes s → Each Bytes (stream_events format limit s)
unfolding event_payloads
stream-bytes format limit s h = events-bytes format (packets limit 1 s) (packets-bytes limit 1 s h)

-- ---- the last commit line

shown-ends : (f : List ℕ → ℕ) (l : List Event) → Each FitsPosition (shown (rules f) l) → EndsWithLastCommit (shown (rules f) l)
shown-ends f l positions = kept-all (shown (rules f) l) (shown-has f [] (good (rules f) l)) positions

pub events-end : (f : List ℕ → ℕ) (l : List Event) → Each (λ t. t.position < 2 ^ 32) (shown (rules f) l) → EndsWithLastCommit (shown (rules f) l)
events-end = shown-ends

pub streams-end : (f : List ℕ → ℕ) (format : Format) (limit : ℕ) (s : List ℕ) → AreBytes s → EndsWithLastCommit (stream_transactions (rules f) format limit s)
unfolding stream_transactions
streams-end f format limit s h =
    let l = stream_events format limit s in
    shown-ends f l (fit-of-bytes f l (stream-bytes format limit s (bytes-each s h)))

-- ---- the payloads of an answer

Each-drop : {A : Type 0} (P : A → Type 0) (n : ℕ) (xs : List A) → Each P xs → Each P (drop n xs)
Each-drop P zero xs h = h
Each-drop P (suc n) [] h = tt
Each-drop P (suc n) (x ∷ xs) h = Each-drop P n xs h.1

Each-onto : {A : Type 0} (P : A → Type 0) (past xs : List A) → Each P past → Each P xs → Each P (onto past xs)
Each-onto P past [] h k = h
Each-onto P past (x ∷ xs) h k = Each-onto P (x ∷ past) xs (k.0, h) k.1

-- the first elements of a list, if the first of them is among them
Each-some : {A : Type 0} (P : A → Type 0) (x : A) (xs : List A) (is_first : Bool) → P x → Each P xs → Each P (elim is_first [ true ↦ x ∷ xs | false ↦ [] ])
Each-some P x xs true h k = (h, k)
Each-some P x xs false h k = tt

Each-while : {A : Type 0} (P : A → Type 0) (p : A → Bool) (xs : List A) → Each P xs → Each P (prefix_while p xs)
Each-while P p [] h = tt
Each-while P p (x ∷ xs) h = Each-some P x (prefix_while p xs) (p x) h.0 (Each-while P p xs h.1)

within-bytes : (n : ℕ) (l : List Event) → Each Bytes l → Each Bytes (events_within n l)
unfolding events_within
within-bytes n [] h = tt
within-bytes n (e ∷ l) h = Each-some Bytes e (events_within (n - length e) l) (nat_lt 0 n) h.0 (within-bytes (n - length e) l h.1)

-- the newest description, if there is one, is one of the events
newest-one : (e : Event) (past : List Event) (is_one : Bool) → Bytes e → Each Bytes (option_to_list (newest_description past))
    → Each Bytes (option_to_list (elim (when is_one e) [ Some y ↦ Some y | None ↦ newest_description past ]))
newest-one e past true h k = (h, tt)
newest-one e past false h k = k

newest-bytes : (past : List Event) → Each Bytes past → Each Bytes (option_to_list (newest_description past))
newest-bytes [] h = tt
newest-bytes (e ∷ past) h = newest-one e past (is_description e) h.0 (newest-bytes past h.1)

flag-fits : (is_asked : Bool) → (if is_asked then 1 else 0) < 256
flag-fits true = omega arith
flag-fits false = omega arith

payload_of-bytes : (format : Format) (e : Event) → Bytes e → Bytes (payload_of format e)
payload_of-bytes Plain e h = (omega arith, h)
payload_of-bytes SemiSync e h = (omega arith, (omega arith, (flag-fits (is_among (number event.QUERY_EVENT ∷ number event.XID_EVENT ∷ []) (type_of e)), h)))

payloads_of-bytes : (format : Format) (l : List Event) → Each Bytes l → Each Bytes (map (payload_of format) l)
payloads_of-bytes format [] h = tt
payloads_of-bytes format (e ∷ l) h = (payload_of-bytes format e h.0, payloads_of-bytes format l h.1)

closed-bytes : (damage : Option Verdict) → Each Bytes (closed_by damage)
closed-bytes None = ((omega arith, (omega arith, (omega arith, (omega arith, (omega arith, tt))))), tt)
closed-bytes (Some v) = tt

-- the payloads of an answer over a file of bytes are bytes
all_payloads-bytes : (r : Rules) (format : Format) (b : List ℕ) (position : ℕ) → Bytes b → Each Bytes (all_payloads r format b position)
all_payloads-bytes r format b position h =
    let events = file-bytes b h in
    let before = Each-onto Bytes [] (events_before b position) tt (within-bytes (position - 4) (file_events b) events) in
    let from = Each-drop Bytes (length (events_before b position)) (file_events b) events in
    let sent = up_to_fault-begins r.damage (past_at b position) (events_from b position) in
    let led = Each-append Bytes (description_before b position) (sent_events r b position) (newest-bytes (past_at b position) before) (Each-prefix Bytes (sent_events r b position) sent.0 (subst (Each Bytes) sent.1 from)) in
    Each-append Bytes (map (payload_of format) (description_before b position ++ sent_events r b position)) (closed_by (damage_from r b position))
    (payloads_of-bytes format (description_before b position ++ sent_events r b position) led) (closed-bytes (damage_from r b position))

-- an answer within a limit, of bytes
record AreSent (limit : ℕ) (a : Answer) : Type 0 where
  are_bytes : Each Bytes a.payloads
  all_fit : AllFit limit a.payloads

fitting-one : (limit : ℕ) (p : List ℕ) (ps : List (List ℕ)) (does : Bool) → fits limit p ≡ does → AllFit limit ps → AllFit limit (elim does [ true ↦ p ∷ ps | false ↦ [] ])
fitting-one limit p ps true e h = all-cons limit p ps (leb-true (length p) limit e) h
fitting-one limit p ps false e h = all-none limit

fitting-all : (limit : ℕ) (ps : List (List ℕ)) → AllFit limit (prefix_while (fits limit) ps)
fitting-all limit [] = all-none limit
fitting-all limit (p ∷ ps) = fitting-one limit p (prefix_while (fits limit) ps) (fits limit p) refl (fitting-all limit ps)

sent-by : (limit : ℕ) (ps : List (List ℕ)) (damage : Option Verdict) (o : Option Served) → Each Bytes ps
    → AreSent limit (elim o [ Some s ↦ nothing_sent s | None ↦ fitting_payloads limit ps damage ])
sent-by limit ps damage None h = record { are_bytes = Each-while Bytes (fits limit) ps h; all_fit = fitting-all limit ps }
sent-by limit ps damage (Some s) h = record { are_bytes = tt; all_fit = all-none limit }

answer-sent : (r : Rules) (format : Format) (limit : ℕ) (b : List ℕ) (position : ℕ) → Bytes b → AreSent limit (answer r format limit b position)
unfolding answer
answer-sent r format limit b position h =
    sent-by limit (all_payloads r format b position) (damage_from r b position) (rejection_or_fault r b position) (all_payloads-bytes r format b position h)

-- ---- the transactions of a run

-- the events that arrive of an answer are bytes
step-bytes : (r : Rules) (format : Format) (b : List ℕ) (before : Report) (step : Step) → Bytes b → Each Bytes (stream_events format program_limit (step_stream r format b before step))
unfolding event_payloads
step-bytes r format b before step h =
    let a = answer r format program_limit (take step.size b) (resume_position before) in
    let sent = answer-sent r format program_limit (take step.size b) (resume_position before) (bytes-take step.size b h) in
    let s = step_stream r format b before step in
    let arrived = packets-prefix program_limit (length s) 1 step.count a.payloads sent.all_fit in
    events-bytes format (packets program_limit 1 s) (Each-prefix Bytes (packets program_limit 1 s) arrived.0 (subst (Each Bytes) arrived.1 sent.are_bytes))

-- the text of each has lines, and each position fits in a commit line
record AreReadBack (ts : List Transaction) : Type 0 where
  lines : Each HasLines ts
  positions : Each FitsPosition ts

step-read : (f : List ℕ → ℕ) (format : Format) (b : List ℕ) (before : Report) (step : Step) → Bytes b → AreReadBack (stream_transactions (rules f) format program_limit (step_stream (rules f) format b before step))
unfolding stream_transactions
step-read f format b before step h =
    let l = stream_events format program_limit (step_stream (rules f) format b before step) in
    record { lines = shown-has f [] (good (rules f) l); positions = fit-of-bytes f l (step-bytes (rules f) format b before step h) }

-- the report after a step: the one before it, if that ended with a fault
abbrev after_step : Bool → Report → Report → Report
after_step is_over before more = elim is_over [ true ↦ before | false ↦ more ]

one-step : (f : List ℕ → ℕ) (format : Format) (b : List ℕ) (before : Report) (step : Step) (is_over : Bool) → Bytes b → AreReadBack before.transactions
    → AreReadBack (after_step is_over before (grown before (stream_report (rules f) format program_limit (step_stream (rules f) format b before step)))).transactions
one-step f format b before step true h k = k
one-step f format b before step false h k =
    let more = stream_transactions (rules f) format program_limit (step_stream (rules f) format b before step) in
    let m = step-read f format b before step h in
    record { lines = Each-append HasLines before.transactions more k.lines m.lines; positions = Each-append FitsPosition before.transactions more k.positions m.positions }

run-read : (f : List ℕ → ℕ) (format : Format) (b : List ℕ) (back : List Step) → Bytes b → AreReadBack (run_back (rules f) format b back).transactions
unfolding run_back next_report
run-read f format b [] h = record { lines = tt; positions = tt }
run-read f format b (step ∷ earlier) h =
    let before = run_back (rules f) format b earlier in
    one-step f format b before step (is_fault_verdict before.verdict) h (run-read f format b earlier h)

pub runs-end : (f : List ℕ → ℕ) (format : Format) (b : List ℕ) (steps : List Step) → AreBytes b → EndsWithLastCommit (run (rules f) format b steps).transactions
runs-end f format b steps h =
    let k = run-read f format b (onto [] steps) (bytes-each b h) in
    kept-all (run (rules f) format b steps).transactions k.lines k.positions
