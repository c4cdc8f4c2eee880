-- A follower that resumes from its last commit prints each transaction once.
use Rattle.std.proofs.Common.{◌≡◌, ℕ, ◌+◌, ◌≤◌, ◌<◌, Bool, true, false, ◌⊎◌, inl, inr, List, [], ◌∷◌, ◌++◌, length, take, drop, Option, Some, None, refl, sym, ap, subst, ◌∙◌, append_assoc, length-append, ◌-◌, arith}
use Rattle.std.specs.Prelude.{unwrap_or, ◌&&◌, nat_le}
use Rattle.std.specs.Option.{option_to_list}
use Rattle.std.proofs.lemmas.List.{append-nil, take-append-drop, take_all}
use Rattle.std.proofs.lemmas.Bool.{leb-true}
use Rattle.std.proofs.Math.Seq.{take-append_seam}
use Rattle.wire_packets.specs.Framing.{framings}
use Rattle.wire_packets.specs.Packets.{packets}
use Rattle.events_frames.specs.Events.{IsWholeEvent, header_size_field}
use Rattle.feed_checks.specs.declared.verdict.Verdict.{Verdict}
use Rattle.feed_checks.specs.PastLists.{onto}
use Rattle.feed_checks.specs.EventFields.{Event, log_pos_of, in_force}
use Rattle.feed_checks.specs.Kinds.{kinds, kind_of, is_inside, waiting}
use Rattle.feed_checks.specs.Damage.{damage_of}
use Rattle.feed_transactions.specs.Checks.{fault_of}
use Rattle.feed_transactions.specs.ReportLaws.{Each, IsBetween}
use Rattle.feed_transactions.specs.Rules.{Rules, Judge, rules, up_to_fault, shown_after, shown, good}
use Rattle.feed_transactions.specs.Transactions.{Transaction, shown_by}
use Rattle.feed_transactions.proofs.RuleLemmas.{AreGood, onto-snoc, up_to_fault-seen, up_to_fault-append, shown_after-seen, shown-seen}
use Rattle.feed_checks.specs.LogFormat.{events, joined, has_magic_number}
use Rattle.feed_transactions.specs.Reports.{Report, file_events, file_transactions}
use Rattle.feed_checks.proofs.EventLemmas.{events-law, events-append}
use Rattle.feed_transactions.proofs.PrefixLemmas.{with_magic-append}
use Rattle.feed_replication.specs.ResumePositions.{last_position}
use Rattle.feed_replication.specs.declared.format.PayloadFormat.{PayloadFormat as Format}
use Rattle.feed_replication.specs.Streams.{stream_events, stream_transactions, event_payloads, events_of, stream_report, program_limit}
use Rattle.feed_replication.specs.declared.served.Served.{Served}
use Rattle.feed_replication.specs.Positions.{events_before, events_from, is_event_boundary}
use Rattle.feed_replication.specs.Serving.{newest_description, rejection_or_fault, closing_payload, answer, answer_bytes}
use Rattle.feed_replication.specs.declared.step.Step.{Step}
use Rattle.feed_replication.specs.Runs.{resume_position, step_stream, is_fault_verdict, grown, next_report, run_back}
use Rattle.feed_replication.specs.Headline.{HasPositions, IsFollowable}
use Rattle.feed_replication.proofs.PrefixLemmas.{IsPrefix, packets-prefix}
use Rattle.feed_replication.proofs.PositionLemmas.{prefixes, After, Shorter, Each-prefix, Each-back, Each-append, Each-onto, onto-append, length-joined, sent-then, edge-is, events_within-le, sends-from, events_from-is}
use Rattle.feed_replication.proofs.ResumeLemmas.{leads, led-each, good-back, good-of-sent, mild, inner-none, quiet-onto, shows-one, IsLast, last-shown}
use Rattle.feed_replication.proofs.ReceivedAnswerLemmas.{Fits, all-none, fits-of, closing-fits, led_events, stream-prefix, stream-whole, answer-failed, ShowsFrom, shown-led, prefix-shows, no-more}

-- ---- good events

begins-good : (e : Event) (x l : List Event) (o : Option Verdict) → IsPrefix x l → IsPrefix (elim o [ None ↦ e ∷ x | Some v ↦ [] ]) (e ∷ l)
begins-good e x l None h = (h.0, ap (λ (y : List Event). e ∷ y) h.1)
begins-good e x l (Some v) h = (e ∷ l, refl)

pub up_to_fault-begins : (judge : Judge) (past l : List Event) → IsPrefix (up_to_fault judge past l) l
unfolding up_to_fault
up_to_fault-begins judge past [] = ([], refl)
up_to_fault-begins judge past (e ∷ l) = begins-good e (up_to_fault judge (e ∷ past) l) l (judge past e) (up_to_fault-begins judge (e ∷ past) l)

are-good : (judge : Judge) (past : List Event) (e : Event) (x : List Event) (o : Option Verdict) → judge past e ≡ o → AreGood judge (e ∷ past) x → AreGood judge past (elim o [ None ↦ e ∷ x | Some v ↦ [] ])
are-good judge past e x None h g = (h, g)
are-good judge past e x (Some v) h g = tt

pub up_to_fault-good : (judge : Judge) (past l : List Event) → AreGood judge past (up_to_fault judge past l)
unfolding up_to_fault
up_to_fault-good judge past [] = tt
up_to_fault-good judge past (e ∷ l) = are-good judge past e (up_to_fault judge (e ∷ past) l) (judge past e) refl (up_to_fault-good judge (e ∷ past) l)

pub good-parts : (judge : Judge) (past a b : List Event) → AreGood judge past (a ++ b) → AreGood judge past a × AreGood judge (onto past a) b
good-parts judge past [] b g = (tt, g)
good-parts judge past (e ∷ a) b g = let k = good-parts judge (e ∷ past) a b g.1 in ((g.0, k.0), k.1)

good-both : (judge : Judge) (past a b : List Event) → AreGood judge past a → AreGood judge (onto past a) b → AreGood judge past (a ++ b)
good-both judge past [] b g h = h
good-both judge past (e ∷ a) b g h = (g.0, good-both judge (e ∷ past) a b g.1 h)

pub good-all : (judge : Judge) (past l : List Event) → AreGood judge past l → up_to_fault judge past l ≡ l
unfolding up_to_fault
good-all judge past [] g = refl
good-all judge past (e ∷ l) g = rw (up_to_fault, g.0) (ap (λ (x : List Event). e ∷ x) (good-all judge (e ∷ past) l g.1))

-- ---- the position of a follower

-- its transactions are those of the good events up to a position between transactions
pub record IsAt (f : List ℕ → ℕ) (b : List ℕ) (ts : List Transaction) (position : ℕ) : Type 0 where
  pub prefix : List Event
  pub later : List Event
  pub split : file_events b ≡ prefix ++ later
  pub are_good : AreGood (fault_of f) [] prefix
  pub shown_is : ts ≡ shown_after (rules f) [] prefix
  pub position_is : position ≡ 4 + length (joined prefix)
  pub between : IsBetween (kinds (onto [] prefix))

-- nothing was printed
pub at-first : (f : List ℕ → ℕ) (b : List ℕ) → IsAt f b [] 4
unfolding shown_after kinds is_inside waiting
at-first f b = record { prefix = []; later = file_events b; split = refl; are_good = tt; shown_is = refl; position_is = refl; between = record { outside = refl; none_waits = refl } }

pub last-one : (ts : List Transaction) (t : Transaction) → last_position (ts ++ t ∷ []) ≡ Some t.position
last-one [] t = refl
last-one (u ∷ ts) t = rw (last-one ts t) refl

regroup : (a : List Event) (e : Event) (l m r : List Event) → ((a ++ e ∷ l) ++ m) ++ r ≡ (a ++ e ∷ []) ++ ((l ++ m) ++ r)
regroup a e l m r = simp append_assoc

regroup-good : (h a : List Event) (e : Event) (l m : List Event) → h ++ ((a ++ e ∷ l) ++ m) ≡ (h ++ a) ++ e ∷ (l ++ m)
regroup-good h a e l m = simp append_assoc

pub one-split : (a : List Event) (e : Event) (l : List Event) → a ++ e ∷ l ≡ (a ++ e ∷ []) ++ l
one-split a e l = simp append_assoc

position-or : (shows : List Transaction) (t : Transaction) (ts : List Transaction) (m n : ℕ) → shows ≡ t ∷ ts → (shows ≡ []) ⊎ (m ≡ n) → m ≡ n
position-or shows t ts m n h (inl e) = absurd (no (sym e ∙ h))
  where
    no : [] ≡ t ∷ ts → ⊥
    no k = cc
position-or shows t ts m n h (inr e) = e

-- it goes on to the last transaction that is shown
goes-on : (f : List ℕ → ℕ) (b : List ℕ) (ts : List Transaction) (position : ℕ) (new : List Transaction) → HasPositions (rules f) b → (h : IsAt f b ts position)
    → (s : ShowsFrom f (onto [] h.prefix) h.later new) → IsLast (rules f) (onto [] h.prefix) (up_to_fault (fault_of f) (onto [] h.prefix) s.first) → IsAt f b (ts ++ new) (unwrap_or (last_position (ts ++ new)) 4)
unfolding shown_after shown_by kinds
goes-on f b ts position new bears h s l =
    let bg = up_to_fault-begins (fault_of f) (onto [] h.prefix) s.first in
    let gg : AreGood (fault_of f) (onto [] h.prefix) (l.first ++ l.event ∷ l.later) = subst (AreGood (fault_of f) (onto [] h.prefix)) l.split (up_to_fault-good (fault_of f) (onto [] h.prefix) s.first) in
    let parts = good-parts (fault_of f) (onto [] h.prefix) l.first (l.event ∷ l.later) gg in
    let one = shows-one (kind_of l.event (in_force (onto (onto [] h.prefix) l.first))) (kinds (onto (onto [] h.prefix) l.first)) (log_pos_of l.event) l.shown l.more (inner-none f (onto (onto [] h.prefix) l.first) l.event parts.1.0)
    (quiet-onto f (onto [] h.prefix) l.first parts.0 (λ i. h.between.none_waits)) l.shows in
    let onto_is : onto [] (h.prefix ++ (l.first ++ l.event ∷ [])) ≡ l.event ∷ onto (onto [] h.prefix) l.first = onto-append [] h.prefix (l.first ++ l.event ∷ []) ∙ onto-snoc (onto [] h.prefix) l.first l.event in
    let shows_one : shown_by (onto (onto [] h.prefix) l.first) l.event ≡ l.shown ∷ [] = l.shows ∙ ap (λ (x : List Transaction). l.shown ∷ x) one.alone in
    let new_is : new ≡ shown_after (rules f) (onto [] h.prefix) l.first ++ l.shown ∷ [] =
    s.shows ∙ ap (shown_after (rules f) (onto [] h.prefix)) l.split ∙ shown_after-seen (rules f) (onto [] h.prefix) l.first (l.event ∷ l.later)
    ∙ ap (λ (x : List Transaction). shown_after (rules f) (onto [] h.prefix) l.first ++ (x ++ shown_after (rules f) (l.event ∷ onto (onto [] h.prefix) l.first) l.later)) shows_one
    ∙ ap (λ (x : List Transaction). shown_after (rules f) (onto [] h.prefix) l.first ++ (l.shown ∷ x)) l.nothing in
    let prefix_shows : shown_after (rules f) [] (h.prefix ++ (l.first ++ l.event ∷ [])) ≡ ts ++ new =
    shown_after-seen (rules f) [] h.prefix (l.first ++ l.event ∷ [])
    ∙ ap (λ (x : List Transaction). x ++ shown_after (rules f) (onto [] h.prefix) (l.first ++ l.event ∷ [])) (sym h.shown_is)
    ∙ ap (λ (x : List Transaction). ts ++ x) (shown_after-seen (rules f) (onto [] h.prefix) l.first (l.event ∷ []) ∙ ap (λ (x : List Transaction). shown_after (rules f) (onto [] h.prefix) l.first ++ (x ++ [])) shows_one ∙ sym new_is) in
    let last : unwrap_or (last_position (ts ++ new)) 4 ≡ l.shown.position =
    ap (λ (x : List Transaction). unwrap_or (last_position (ts ++ x)) 4) new_is
    ∙ ap (λ (x : List Transaction). unwrap_or (last_position x) 4) (sym (append_assoc ts (shown_after (rules f) (onto [] h.prefix) l.first) (l.shown ∷ [])))
    ∙ ap (λ (x : Option ℕ). unwrap_or x 4) (last-one (ts ++ shown_after (rules f) (onto [] h.prefix) l.first) l.shown) in
    let more = up_to_fault-append (fault_of f) (onto [] h.prefix) s.first s.rest in
    let good_is : good (rules f) (file_events b) ≡ (h.prefix ++ l.first) ++ l.event ∷ (l.later ++ more.0) =
    ap (good (rules f)) h.split ∙ up_to_fault-seen (fault_of f) [] h.prefix h.later h.are_good
    ∙ ap (λ (x : List Event). h.prefix ++ up_to_fault (fault_of f) (onto [] h.prefix) x) s.split
    ∙ ap (λ (x : List Event). h.prefix ++ x) more.1 ∙ ap (λ (x : List Event). h.prefix ++ (x ++ more.0)) l.split
    ∙ regroup-good h.prefix l.first l.event l.later more.0 in
    let long : length (joined (h.prefix ++ (l.first ++ l.event ∷ []))) ≡ length (joined (h.prefix ++ l.first)) + length l.event =
    ap (λ (x : List Event). length (joined x)) (sym (append_assoc h.prefix l.first (l.event ∷ []))) ∙ length-joined (h.prefix ++ l.first) (l.event ∷ []) ∙ ap (λ (n : ℕ). length (joined (h.prefix ++ l.first)) + n) (ap length (append-nil l.event)) in
    let bear : log_pos_of l.event ≡ 4 + length (joined (h.prefix ++ l.first)) + length l.event =
    position-or (shown_by (onto [] (h.prefix ++ l.first)) l.event) l.shown l.more (log_pos_of l.event) (4 + length (joined (h.prefix ++ l.first)) + length l.event)
    (ap (λ (x : List Event). shown_by x l.event) (onto-append [] h.prefix l.first) ∙ l.shows) (bears (h.prefix ++ l.first) l.event (l.later ++ more.0) good_is) in
    let end : 4 + length (joined (h.prefix ++ l.first)) + length l.event ≡ 4 + length (joined (h.prefix ++ (l.first ++ l.event ∷ []))) = omega (arith, long) in
    record {
      prefix = h.prefix ++ (l.first ++ l.event ∷ []);
      later = (l.later ++ bg.0) ++ s.rest;
      split = h.split ∙ ap (λ (x : List Event). h.prefix ++ x) (s.split ∙ ap (λ (x : List Event). x ++ s.rest) (bg.1 ∙ ap (λ (x : List Event). x ++ bg.0) l.split) ∙ regroup l.first l.event l.later bg.0 s.rest)
          ∙ sym (append_assoc h.prefix (l.first ++ l.event ∷ []) ((l.later ++ bg.0) ++ s.rest));
      are_good = good-both (fault_of f) [] h.prefix (l.first ++ l.event ∷ []) h.are_good (good-parts (fault_of f) (onto [] h.prefix) (l.first ++ l.event ∷ []) l.later (subst (AreGood (fault_of f) (onto [] h.prefix)) (one-split l.first l.event l.later) gg)).0;
      shown_is = sym prefix_shows;
      position_is = last ∙ one.position_is ∙ bear ∙ end;
      between = subst (λ (x : List Event). IsBetween (kinds x)) (sym onto_is) one.between;
    }

-- nothing is shown, and its position is unchanged
stays : (f : List ℕ → ℕ) (b : List ℕ) (ts : List Transaction) (position : ℕ) (new : List Transaction) → IsAt f b ts position → position ≡ unwrap_or (last_position ts) 4 → new ≡ [] → IsAt f b (ts ++ new) (unwrap_or (last_position (ts ++ new)) 4)
stays f b ts position new h p n =
    let e : ts ++ new ≡ ts = ap (λ (x : List Transaction). ts ++ x) n ∙ append-nil ts in
    record {
      prefix = h.prefix;
      later = h.later;
      split = h.split;
      are_good = h.are_good;
      shown_is = e ∙ h.shown_is;
      position_is = ap (λ (x : List Transaction). unwrap_or (last_position x) 4) e ∙ sym p ∙ h.position_is;
      between = h.between;
    }

pub represents-after : (f : List ℕ → ℕ) (b : List ℕ) (ts : List Transaction) (position : ℕ) (new : List Transaction) → HasPositions (rules f) b → (h : IsAt f b ts position) → position ≡ unwrap_or (last_position ts) 4
    → ShowsFrom f (onto [] h.prefix) h.later new → IsAt f b (ts ++ new) (unwrap_or (last_position (ts ++ new)) 4)
represents-after f b ts position new bears h p s = elim (last-shown (rules f) (onto [] h.prefix) (up_to_fault (fault_of f) (onto [] h.prefix) s.first)) [
  | inl none ↦ stays f b ts position new h p (s.shows ∙ none)
  | inr l ↦ goes-on f b ts position new bears h s l
]

-- ---- from a position between transactions

led-is : (r : Rules) (b : List ℕ) (position : ℕ) (prefix w : List Event) → events_before b position ≡ prefix → events_from b position ≡ w
    → led_events r b position ≡ option_to_list (newest_description (onto [] prefix)) ++ up_to_fault r.damage (onto [] prefix) w
led-is r b position prefix w e o =
    ap (λ (x : List Event). option_to_list (newest_description (onto [] x)) ++ up_to_fault r.damage (onto [] x) (events_from b position)) e
    ∙ ap (λ (x : List Event). option_to_list (newest_description (onto [] prefix)) ++ up_to_fault r.damage (onto [] prefix) x) o

pub led-fits : (limit : ℕ) (format : Format) (judge : Judge) (prefix w : List Event) → Each (Fits limit format) (prefix ++ w) → Each (Fits limit format) (option_to_list (newest_description (onto [] prefix)) ++ up_to_fault judge (onto [] prefix) w)
led-fits limit format judge prefix w h =
    let s = up_to_fault-begins judge (onto [] prefix) w in
    Each-append (Fits limit format) (option_to_list (newest_description (onto [] prefix))) (up_to_fault judge (onto [] prefix) w)
    (led-each (Fits limit format) (onto [] prefix) (Each-onto (Fits limit format) [] prefix tt (Each-prefix (Fits limit format) prefix w h)))
    (Each-prefix (Fits limit format) (up_to_fault judge (onto [] prefix) w) s.0 (subst (Each (Fits limit format)) s.1 (Each-back (Fits limit format) prefix w h)))

and_first : (a b : Bool) → (a && b) ≡ true → a ≡ true
and_first true b h = refl
and_first false b h = absurd cc

whole-some : (e : Event) → IsWholeEvent e → 0 < length e
whole-some e w =
    let h = leb-true 19 (length e) (and_first (nat_le 19 (length e)) (nat_le 19 (header_size_field e)) (and_first (nat_le 19 (length e) && nat_le 19 (header_size_field e)) (nat_le (header_size_field e) (length e)) w.whole)) in
    omega (arith, h)

pub some-each : (limit : ℕ) (format : Format) (l : List Event) → Each (Fits limit format) l → Each (λ e. 0 < length e) l
some-each limit format [] h = tt
some-each limit format (e ∷ l) h = (whole-some e h.0.0, some-each limit format l h.1)

-- what a follower gets that asks from the position after good events
pub record Resumes (f : List ℕ → ℕ) (format : Format) (limit reading : ℕ) (b : List ℕ) (position : ℕ) (prefix w : List Event) : Type 0 where
  pub cut : (c : ℕ) → ShowsFrom f (onto [] prefix) w (stream_transactions (rules f) format reading (take c (answer_bytes (answer (rules f) format limit b position))))
  pub whole : stream_events format reading (answer_bytes (answer (rules f) format limit b position)) ≡ option_to_list (newest_description (onto [] prefix)) ++ up_to_fault (damage_of f) (onto [] prefix) w
  pub shows : stream_transactions (rules f) format reading (answer_bytes (answer (rules f) format limit b position)) ≡ shown_after (rules f) (onto [] prefix) (up_to_fault (fault_of f) (onto [] prefix) w)

pub resumed : (f : List ℕ → ℕ) (format : Format) (limit reading : ℕ) (b : List ℕ) (position : ℕ) (prefix w : List Event) → has_magic_number b ≡ true → file_events b ≡ prefix ++ w
    → Each (Fits limit format) (prefix ++ w) → Each (Fits reading format) (prefix ++ w) → length closing_payload ≤ limit → length closing_payload ≤ reading
    → AreGood (fault_of f) [] prefix → position ≡ 4 + length (joined prefix) → IsBetween (kinds (onto [] prefix)) → Resumes f format limit reading b position prefix w
unfolding stream_transactions
resumed f format limit reading b position prefix w magic is fl fr cl cr good at between =
    let s = sends-from (rules f) b position prefix w (mild f) magic is (some-each limit format prefix (Each-prefix (Fits limit format) prefix w fl)) good at in
    let le = led-is (rules f) b position prefix w s.0 (events_from-is b position prefix w s.0 is) in
    let ld = leads f (onto [] prefix) (good-back (fault_of f) [] prefix tt good) in
    let hl : Each (Fits limit format) (led_events (rules f) b position) = subst (Each (Fits limit format)) (sym le) (led-fits limit format (damage_of f) prefix w fl) in
    let hr : Each (Fits reading format) (led_events (rules f) b position) = subst (Each (Fits reading format)) (sym le) (led-fits reading format (damage_of f) prefix w fr) in
    let sent = up_to_fault-begins (damage_of f) (onto [] prefix) w in
    let whole = stream-whole (rules f) format limit reading b position s.1 hl hr cl cr ∙ le in
    record {
      cut = λ c. let x = stream-prefix (rules f) format limit reading b position c s.1 hl hr cl cr in
          prefix-shows f (onto [] prefix) (option_to_list (newest_description (onto [] prefix))) w (stream_events format reading (take c (answer_bytes (answer (rules f) format limit b position)))) x.0
          (up_to_fault (damage_of f) (onto [] prefix) w) sent.0 ld between ld.good ld.shows sent.1 (sym le ∙ x.1);
      whole = whole;
      shows = ap (shown (rules f)) whole ∙ shown-led f (onto [] prefix) (option_to_list (newest_description (onto [] prefix))) (up_to_fault (damage_of f) (onto [] prefix) w) ld between
          ∙ ap (shown_after (rules f) (onto [] prefix)) (good-of-sent (rules f) (onto [] prefix) w (mild f));
    }

-- ---- a step

nothing-left : (f : List ℕ → ℕ) (format : Format) (reading c : ℕ) → stream_transactions (rules f) format reading (take c []) ≡ []
unfolding stream_transactions framings event_payloads shown_after up_to_fault
nothing-left f format reading c =
    let g = packets-prefix reading (length (take c (framings 1 []))) 1 c [] (all-none reading) in
    let e : packets reading 1 (take c []) ≡ [] = no-more (packets reading 1 (take c [])) g.0 (sym g.1) in
    ap (λ (ps : List (List ℕ)). shown (rules f) (events_of format ps)) e

-- what a step gets: what it shows, and that a complete answer shows all that there is
pub record Gets (f : List ℕ → ℕ) (format : Format) (limit reading : ℕ) (b : List ℕ) (position c : ℕ) (ts : List Transaction) (past later : List Event) : Type 0 where
  pub shows : ShowsFrom f past later (stream_transactions (rules f) format reading (take c (answer_bytes (answer (rules f) format limit b position))))
  pub all : length (answer_bytes (answer (rules f) format limit b position)) ≤ c
      → length (file_transactions (rules f) b) ≤ length (ts ++ stream_transactions (rules f) format reading (take c (answer_bytes (answer (rules f) format limit b position))))

-- the part of a file that is there, and the events that are missing
pub record IsPart (b part : List ℕ) (more : List Event) : Type 0 where
  pub magic : has_magic_number part ≡ true
  pub events_are : file_events b ≡ file_events part ++ more

shorter-edge : (b : List ℕ) (position : ℕ) (prefix : List Event) (x : Event) (w : List Event) → prefix ≡ file_events b ++ x ∷ w → 0 < length x → position ≡ 4 + length (joined prefix) → is_event_boundary b position ≡ true → ⊥
shorter-edge b position prefix x w is some at edge =
    let e = edge-is b position edge in
    let l = events_within-le (position - 4) (file_events b) in
    let j = ap (λ (y : List Event). length (joined y)) is ∙ length-joined (file_events b) (x ∷ w) in
    let k = length-append x (joined w) in
    omega (arith, e, l, j, k, some, at)

pub with_magic-transactions : (r : Rules) (b : List ℕ) → has_magic_number b ≡ true → file_transactions r b ≡ shown r (file_events b)
unfolding file_transactions
with_magic-transactions r b m = rw m refl

unmarked-transactions : (r : Rules) (b : List ℕ) → has_magic_number b ≡ false → file_transactions r b ≡ []
unfolding file_transactions
unmarked-transactions r b m = rw m refl

-- what good events and others show begins with what the good ones show
pub shows-prefix : (f : List ℕ → ℕ) (prefix w : List Event) → AreGood (fault_of f) [] prefix → shown (rules f) (prefix ++ w) ≡ shown_after (rules f) [] prefix ++ shown_after (rules f) (onto [] prefix) (up_to_fault (fault_of f) (onto [] prefix) w)
shows-prefix f prefix w good = shown-seen (rules f) prefix w good

-- less than was printed
fewer : (f : List ℕ → ℕ) (x more prefix : List Event) → AreGood (fault_of f) [] prefix → prefix ≡ x ++ more → length (shown (rules f) x) ≤ length (shown_after (rules f) [] prefix)
fewer f x more prefix good is =
    let g = good-parts (fault_of f) [] x more (subst (AreGood (fault_of f) []) is good) in
    let e : shown (rules f) x ≡ shown_after (rules f) [] x = ap (shown_after (rules f) []) (good-all (fault_of f) [] x g.0) in
    let k : shown_after (rules f) [] prefix ≡ shown_after (rules f) [] x ++ shown_after (rules f) (onto [] x) more = ap (shown_after (rules f) []) is ∙ shown_after-seen (rules f) [] x more in
    omega (arith, ap length e, ap length k, length-append (shown_after (rules f) [] x) (shown_after (rules f) (onto [] x) more))

extended : (f : List ℕ → ℕ) (past w more later : List Event) (ts : List Transaction) → later ≡ w ++ more → ShowsFrom f past w ts → ShowsFrom f past later ts
extended f past w more later ts e h =
    record { first = h.first; rest = h.rest ++ more; split = e ∙ ap (λ (y : List Event). y ++ more) h.split ∙ append_assoc h.first h.rest more; shows = h.shows }

prefix-of : {A : Type 0} (P : A → Type 0) (x y z : List A) → Each P x → x ≡ y ++ z → Each P y
prefix-of {A = A} P x y z h e = Each-prefix P y z (subst (Each P) e h)

sent-step : (f : List ℕ → ℕ) (format : Format) (limit reading : ℕ) (b part : List ℕ) (more : List Event) (ts : List Transaction) (position c : ℕ) → (h : IsAt f b ts position) → IsPart b part more
    → Each (Fits limit format) (file_events b) → Each (Fits reading format) (file_events b) → length closing_payload ≤ limit → length closing_payload ≤ reading
    → After (file_events part) more h.prefix h.later → Gets f format limit reading part position c ts (onto [] h.prefix) h.later
sent-step f format limit reading b part more ts position c h p fl fr cl cr w =
    let al = prefix-of (Fits limit format) (file_events b) (file_events part) more fl p.events_are in
    let ar = prefix-of (Fits reading format) (file_events b) (file_events part) more fr p.events_are in
    let r = resumed f format limit reading part position h.prefix w.0 p.magic w.1 (subst (Each (Fits limit format)) w.1 al) (subst (Each (Fits reading format)) w.1 ar) cl cr h.are_good h.position_is h.between in
    let are : file_transactions (rules f) part ≡ ts ++ stream_transactions (rules f) format reading (answer_bytes (answer (rules f) format limit part position)) =
    with_magic-transactions (rules f) part p.magic ∙ ap (shown (rules f)) w.1 ∙ shows-prefix f h.prefix w.0 h.are_good
    ∙ ap (λ (x : List Transaction). x ++ shown_after (rules f) (onto [] h.prefix) (up_to_fault (fault_of f) (onto [] h.prefix) w.0)) (sym h.shown_is)
    ∙ ap (λ (x : List Transaction). ts ++ x) (sym r.shows) in
    record {
      shows = extended f (onto [] h.prefix) w.0 more h.later (stream_transactions (rules f) format reading (take c (answer_bytes (answer (rules f) format limit part position)))) w.2 (r.cut c);
      all = λ long. let e : take c (answer_bytes (answer (rules f) format limit part position)) ≡ answer_bytes (answer (rules f) format limit part position) = take_all c (answer_bytes (answer (rules f) format limit part position)) long in
          let k : length (file_transactions (rules f) part) ≡ length (ts ++ stream_transactions (rules f) format reading (take c (answer_bytes (answer (rules f) format limit part position)))) =
          ap length are ∙ ap (λ (x : List ℕ). length (ts ++ stream_transactions (rules f) format reading x)) (sym e) in
          omega (arith, k);
    }

-- nothing is sent, and there is no more than was printed
failed-step : (f : List ℕ → ℕ) (format : Format) (limit reading : ℕ) (b part : List ℕ) (ts : List Transaction) (position c : ℕ) (s : Served) → (h : IsAt f b ts position) → rejection_or_fault (rules f) part position ≡ Some s
    → length (file_transactions (rules f) part) ≤ length ts → Gets f format limit reading part position c ts (onto [] h.prefix) h.later
unfolding shown_after up_to_fault
failed-step f format limit reading b part ts position c s h n few =
    let e : stream_transactions (rules f) format reading (take c (answer_bytes (answer (rules f) format limit part position))) ≡ [] =
    ap (λ (x : List ℕ). stream_transactions (rules f) format reading (take c x)) (answer-failed (rules f) format limit part position s n) ∙ nothing-left f format reading c in
    record {
      shows = record { first = []; rest = h.later; split = refl; shows = e };
      all = λ long. omega (arith, few, length-append ts (stream_transactions (rules f) format reading (take c (answer_bytes (answer (rules f) format limit part position)))));
    }

-- the events of a part are a prefix of the file's
part-events : (b : List ℕ) (n : ℕ) → has_magic_number (take n b) ≡ true → (more : List Event) × IsPart b (take n b) more
part-events b n m =
    let k = with_magic-append (take n b) (drop n b) m in
    let e = events-append (drop 4 (take n b)) (drop n b) in
    (e.0, record { magic = m; events_are = ap file_events (sym (take-append-drop n b)) ∙ ap events k.1 ∙ e.1 })

some-none : (s : Served) → Some s ≡ None → ⊥
some-none s h = cc

few-shown : (f : List ℕ → ℕ) (format : Format) (limit : ℕ) (b part : List ℕ) (more : List Event) (ts : List Transaction) (position : ℕ) (s : Served) → (h : IsAt f b ts position) → IsPart b part more
    → Each (Fits limit format) (file_events b) → rejection_or_fault (rules f) part position ≡ Some s → After (file_events part) more h.prefix h.later ⊎ Shorter (file_events part) h.prefix → length (file_transactions (rules f) part) ≤ length ts
few-shown f format limit b part more ts position s h p fl n (inl w) =
    let long = some-each limit format h.prefix (prefix-of (Fits limit format) (file_events b) h.prefix h.later fl h.split) in
    let k = sends-from (rules f) part position h.prefix w.0 (mild f) p.magic w.1 long h.are_good h.position_is in
    absurd (some-none s (sym n ∙ k.1))
few-shown f format limit b part more ts position s h p fl n (inr w) =
    let k = fewer f (file_events part) (w.0 ∷ w.1) h.prefix h.are_good w.2 in
    let e : length (file_transactions (rules f) part) ≡ length (shown (rules f) (file_events part)) = ap length (with_magic-transactions (rules f) part p.magic) in
    omega (arith, k, e, ap length h.shown_is)

sent-gets : (f : List ℕ → ℕ) (format : Format) (limit reading : ℕ) (b part : List ℕ) (more : List Event) (ts : List Transaction) (position c : ℕ) → (h : IsAt f b ts position) → IsPart b part more
    → Each (Fits limit format) (file_events b) → Each (Fits reading format) (file_events b) → length closing_payload ≤ limit → length closing_payload ≤ reading → is_event_boundary part position ≡ true
    → After (file_events part) more h.prefix h.later ⊎ Shorter (file_events part) h.prefix → Gets f format limit reading part position c ts (onto [] h.prefix) h.later
sent-gets f format limit reading b part more ts position c h p fl fr cl cr edge (inl w) = sent-step f format limit reading b part more ts position c h p fl fr cl cr w
sent-gets f format limit reading b part more ts position c h p fl fr cl cr edge (inr w) =
    let long = some-each limit format h.prefix (prefix-of (Fits limit format) (file_events b) h.prefix h.later fl h.split) in
    let x : 0 < length w.0 = (Each-back (λ e. 0 < length e) (file_events part) (w.0 ∷ w.1) (subst (Each (λ e. 0 < length e)) w.2 long)).0 in
    absurd (shorter-edge part position h.prefix w.0 w.1 w.2 x h.position_is edge)

few-of-part : (f : List ℕ → ℕ) (format : Format) (limit : ℕ) (b : List ℕ) (n : ℕ) (ts : List Transaction) (position : ℕ) (s : Served) (m : Bool) → has_magic_number (take n b) ≡ m → IsAt f b ts position
    → Each (Fits limit format) (file_events b) → rejection_or_fault (rules f) (take n b) position ≡ Some s → length (file_transactions (rules f) (take n b)) ≤ length ts
few-of-part f format limit b n ts position s false m h fl w = omega (arith, ap length (unmarked-transactions (rules f) (take n b) m))
few-of-part f format limit b n ts position s true m h fl w =
    let p = part-events b n m in
    few-shown f format limit b (take n b) p.0 ts position s h p.1 fl w (prefixes (file_events (take n b)) p.0 h.prefix h.later (sym p.1.events_are ∙ h.split))

either-step : (f : List ℕ → ℕ) (format : Format) (limit reading : ℕ) (b : List ℕ) (n : ℕ) (ts : List Transaction) (position c : ℕ) (o : Option Served) → rejection_or_fault (rules f) (take n b) position ≡ o → (h : IsAt f b ts position)
    → Each (Fits limit format) (file_events b) → Each (Fits reading format) (file_events b) → length closing_payload ≤ limit → length closing_payload ≤ reading → Gets f format limit reading (take n b) position c ts (onto [] h.prefix) h.later
either-step f format limit reading b n ts position c (Some s) w h fl fr cl cr =
    failed-step f format limit reading b (take n b) ts position c s h w (few-of-part f format limit b n ts position s (has_magic_number (take n b)) refl h fl w)
either-step f format limit reading b n ts position c None w h fl fr cl cr =
    let t = sent-then (rules f) (take n b) position w in
    let p = part-events b n t.0 in
    sent-gets f format limit reading b (take n b) p.0 ts position c h p.1 fl fr cl cr t.1 (prefixes (file_events (take n b)) p.0 h.prefix h.later (sym p.1.events_are ∙ h.split))

step-gets : (f : List ℕ → ℕ) (format : Format) (limit reading : ℕ) (b : List ℕ) (n : ℕ) (ts : List Transaction) (position c : ℕ) → (h : IsAt f b ts position)
    → Each (Fits limit format) (file_events b) → Each (Fits reading format) (file_events b) → length closing_payload ≤ limit → length closing_payload ≤ reading → Gets f format limit reading (take n b) position c ts (onto [] h.prefix) h.later
step-gets f format limit reading b n ts position c h fl fr cl cr = either-step f format limit reading b n ts position c (rejection_or_fault (rules f) (take n b) position) refl h fl fr cl cr

-- ---- runs

-- the state of the follower after a report
abbrev FollowerAt : (List ℕ → ℕ) → List ℕ → Report → Type 0
FollowerAt f b t = IsAt f b t.transactions (resume_position t)

all-of-it : (f : List ℕ → ℕ) (format : Format) (b : List ℕ) → IsFollowable (rules f) format b → Each (Fits program_limit format) (file_events b) × (length closing_payload ≤ program_limit)
all-of-it f format b i = (fits-of program_limit format (file_events b) (closing_payload ∷ []) (events-law (drop 4 b)).0 i.limits, closing-fits program_limit format (file_events b) i.limits)

step-of : (f : List ℕ → ℕ) (format : Format) (b : List ℕ) → IsFollowable (rules f) format b → (t : Report) → (h : FollowerAt f b t) → (step : Step)
    → Gets f format program_limit program_limit (take step.size b) (resume_position t) step.count t.transactions (onto [] h.prefix) h.later
step-of f format b i t h step =
    let a = all-of-it f format b i in
    step-gets f format program_limit program_limit b step.size t.transactions (resume_position t) step.count h a.0 a.0 a.1 a.1

next-represents : (f : List ℕ → ℕ) (format : Format) (b : List ℕ) → IsFollowable (rules f) format b → (t : Report) (step : Step) (over : Bool) → FollowerAt f b t
    → FollowerAt f b (elim over [ true ↦ t | false ↦ grown t (stream_report (rules f) format program_limit (step_stream (rules f) format b t step)) ])
next-represents f format b i t step true h = h
next-represents f format b i t step false h =
    represents-after f b t.transactions (resume_position t) (stream_transactions (rules f) format program_limit (step_stream (rules f) format b t step)) i.positions h refl (step-of f format b i t h step).shows

run-represents : (f : List ℕ → ℕ) (format : Format) (b : List ℕ) → IsFollowable (rules f) format b → (steps : List Step) → FollowerAt f b (run_back (rules f) format b steps)
unfolding run_back next_report
run-represents f format b i [] = at-first f b
run-represents f format b i (step ∷ earlier) = next-represents f format b i (run_back (rules f) format b earlier) step (is_fault_verdict (run_back (rules f) format b earlier).verdict) (run-represents f format b i earlier)

represents-once : (f : List ℕ → ℕ) (b : List ℕ) (ts : List Transaction) (position : ℕ) → has_magic_number b ≡ true → IsAt f b ts position → (j : ℕ) × (ts ≡ take j (file_transactions (rules f) b))
represents-once f b ts position m h =
    let e : file_transactions (rules f) b ≡ ts ++ shown_after (rules f) (onto [] h.prefix) (up_to_fault (fault_of f) (onto [] h.prefix) h.later) =
    with_magic-transactions (rules f) b m ∙ ap (shown (rules f)) h.split ∙ shows-prefix f h.prefix h.later h.are_good
    ∙ ap (λ (x : List Transaction). x ++ shown_after (rules f) (onto [] h.prefix) (up_to_fault (fault_of f) (onto [] h.prefix) h.later)) (sym h.shown_is) in
    (length ts, sym (ap (take (length ts)) e ∙ take-append_seam ts (shown_after (rules f) (onto [] h.prefix) (up_to_fault (fault_of f) (onto [] h.prefix) h.later))))

over-then : (t : Report) (n : Report) (over : Bool) → over ≡ false → (elim over [ true ↦ t | false ↦ n ]) ≡ n
over-then t n false h = refl
over-then t n true h = absurd cc

pub once : (f : List ℕ → ℕ) (format : Format) (b : List ℕ) → IsFollowable (rules f) format b → (steps : List Step) → (j : ℕ) × ((run_back (rules f) format b steps).transactions ≡ take j (file_transactions (rules f) b))
once f format b i steps = represents-once f b (run_back (rules f) format b steps).transactions (resume_position (run_back (rules f) format b steps)) i.magic (run-represents f format b i steps)

pub all-after : (f : List ℕ → ℕ) (format : Format) (b : List ℕ) → IsFollowable (rules f) format b → (earlier : List Step) (step : Step) → is_fault_verdict (run_back (rules f) format b earlier).verdict ≡ false
    → length (answer_bytes (answer (rules f) format program_limit (take step.size b) (resume_position (run_back (rules f) format b earlier)))) ≤ step.count
    → length (file_transactions (rules f) (take step.size b)) ≤ length (run_back (rules f) format b (step ∷ earlier)).transactions
unfolding run_back next_report
all-after f format b i earlier step over long =
    let g = step-of f format b i (run_back (rules f) format b earlier) (run-represents f format b i earlier) step in
    let e = over-then (run_back (rules f) format b earlier) (grown (run_back (rules f) format b earlier) (stream_report (rules f) format program_limit (step_stream (rules f) format b (run_back (rules f) format b earlier) step))) (is_fault_verdict (run_back (rules f) format b earlier).verdict) over in
    let k : length (run_back (rules f) format b (step ∷ earlier)).transactions ≡ length ((run_back (rules f) format b earlier).transactions ++ stream_transactions (rules f) format program_limit (step_stream (rules f) format b (run_back (rules f) format b earlier) step)) =
    ap (λ (x : Report). length x.transactions) e in
    omega (arith, k, g.all long)
