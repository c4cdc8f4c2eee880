-- A follower of changes that resumes after the last transaction that was passed gets each transaction once.
use Rattle.std.proofs.Common.{◌≡◌, ℕ, ◌+◌, ◌-◌, ◌≤◌, ◌<◌, Bool, true, false, ◌⊎◌, inl, inr, List, [], ◌∷◌, ◌++◌, length, take, drop, Option, Some, None, refl, sym, ap, subst, ◌∙◌, append_assoc, arith, take_all}
use Rattle.std.specs.Prelude.{map}
use Rattle.std.specs.Option.{option_to_list}
use Rattle.std.proofs.lemmas.List.{append-nil, map-append, length-append, length-map, take-append-drop}
use Rattle.std.proofs.Math.Seq.{take-append_seam}
use Rattle.wire_packets.specs.Packets.{packets_in}
use Rattle.feed_checks.specs.declared.verdict.Verdict.{Verdict}
use Rattle.feed_checks.specs.PastLists.{onto}
use Rattle.feed_checks.specs.EventFields.{Event}
use Rattle.feed_checks.specs.Kinds.{kinds}
use Rattle.feed_checks.specs.Damage.{damage_of}
use Rattle.feed_checks.specs.LogFormat.{events, joined, has_magic_number}
use Rattle.feed_checks.proofs.EventLemmas.{events-law, events-append}
use Rattle.feed_transactions.specs.Changes.{Committed, committed_by, transaction_of}
use Rattle.feed_transactions.specs.Checks.{fault_of}
use Rattle.feed_transactions.specs.ReportLaws.{Each, IsBetween}
use Rattle.feed_transactions.specs.Reports.{Report, file_events}
use Rattle.feed_transactions.specs.Rules.{Judge, rules, up_to_fault, shown_after, shown}
use Rattle.feed_transactions.specs.Transactions.{Transaction}
use Rattle.feed_transactions.proofs.PrefixLemmas.{with_magic-append}
use Rattle.feed_transactions.proofs.RuleLemmas.{AreGood}
use Rattle.feed_change_log.specs.ChangeLaws.{file_committed}
use Rattle.feed_change_log.specs.CommittedLists.{committed_after}
use Rattle.feed_change_log.proofs.LogLemmas.{commits_step, commits_stop, shown_are, shown_are_committed, file_shows_committed}
use Rattle.feed_replication.specs.declared.format.PayloadFormat.{PayloadFormat as Format}
use Rattle.feed_replication.specs.declared.served.Served.{Served}
use Rattle.feed_replication.specs.declared.step.Step.{Step}
use Rattle.feed_replication.specs.Headline.{IsFollowable}
use Rattle.feed_replication.specs.Positions.{events_before, events_from, is_event_boundary}
use Rattle.feed_replication.specs.Runs.{resume_position, step_stream, is_fault_verdict, grown, next_report, run_back, run}
use Rattle.feed_replication.specs.Serving.{newest_description, rejection_or_fault, closing_payload, answer, answer_bytes}
use Rattle.feed_replication.specs.Streams.{event_payloads, stream_events, stream_transactions, stream_report, program_limit}
use Rattle.feed_replication.proofs.HeadlineLemmas.{prints-the-log}
use Rattle.feed_replication.proofs.PositionLemmas.{prefixes, After, Shorter, Each-prefix, Each-back, length-joined, sent-then, edge-is, events_within-le, sends-from, events_from-is}
use Rattle.feed_replication.proofs.ReceivedAnswerLemmas.{Fits, fits-of, closing-fits, led_events, stream-prefix, answer-failed, shown-led}
use Rattle.feed_replication.proofs.ResumeLemmas.{Leads, leads, good-back, mild}
use Rattle.feed_replication.proofs.RunLemmas.{IsAt, at-first, represents-after, led-fits, some-each, up_to_fault-begins, good-all}
use Rattle.binlog_feed.specs.ChangeRuns.{step_committed, committed_back, run_committed, IsFromTheLog}
use Rattle.binlog_feed.specs.StreamCommits.{stream_committed}
use Rattle.binlog_feed.proofs.AlikeCommitLemmas.{committed_like}
use Rattle.binlog_feed.proofs.ChangeFollowLemmas.{stream_shows}

-- ---- what events commit, one list after another

pub committed_seen : (judge : Judge) (past seen more : List Event) → AreGood judge past seen → committed_after judge past (seen ++ more) ≡ committed_after judge past seen ++ committed_after judge (onto past seen) more
unfolding committed_after
committed_seen judge past [] more good = refl
committed_seen judge past (e ∷ seen) more good =
    commits_step judge past e (seen ++ more) good.0
    ∙ ap (λ (ts : List Committed). committed_by past e ++ ts) (committed_seen judge (e ∷ past) seen more good.1)
    ∙ sym (append_assoc (committed_by past e) (committed_after judge (e ∷ past) seen) (committed_after judge (onto (e ∷ past) seen) more))
    ∙ ap (λ (ts : List Committed). ts ++ committed_after judge (onto (e ∷ past) seen) more) (sym (commits_step judge past e seen good.0))

pub committed_append : (judge : Judge) (past a b : List Event) → (more : List Committed) × (committed_after judge past (a ++ b) ≡ committed_after judge past a ++ more)
unfolding committed_after
committed_append judge past [] b = (committed_after judge past b, refl)
committed_append judge past (e ∷ a) b = either (judge past e) refl (committed_append judge (e ∷ past) a b)
  where
    either : (o : Option Verdict) → judge past e ≡ o → (more : List Committed) × (committed_after judge (e ∷ past) (a ++ b) ≡ committed_after judge (e ∷ past) a ++ more)
        → (more : List Committed) × (committed_after judge past (e ∷ (a ++ b)) ≡ committed_after judge past (e ∷ a) ++ more)
    either None is rest = (
      rest.0,
      commits_step judge past e (a ++ b) is
          ∙ ap (λ (ts : List Committed). committed_by past e ++ ts) rest.1
          ∙ sym (append_assoc (committed_by past e) (committed_after judge (e ∷ past) a) rest.0)
          ∙ ap (λ (ts : List Committed). ts ++ rest.0) (sym (commits_step judge past e a is)),
    )
    either (Some v) is rest = ([], commits_stop judge past e (a ++ b) v is ∙ ap (λ (ts : List Committed). ts ++ []) (sym (commits_stop judge past e a v is)))

-- nothing is shown of nothing
shows_nothing : (ts : List Committed) → map transaction_of ts ≡ [] → ts ≡ []
shows_nothing [] h = refl
shows_nothing (t ∷ ts) h = absurd cc

-- ---- what a stream of an answer commits

-- a prefix of an answer commits what a prefix of the events from the position on commits, after the events before it
record CommitsFrom (f : List ℕ → ℕ) (past m : List Event) (ts : List Committed) : Type 0 where
  first : List Event
  rest : List Event
  split : m ≡ first ++ rest
  commits : ts ≡ committed_after (fault_of f) past first

module _ (f : List ℕ → ℕ) (past led : List Event) (h : Leads f past led) (between : IsBetween (kinds past)) where
  -- the leading description commits nothing
  led_none : committed_after (fault_of f) [] led ≡ []
  unfolding shown_after up_to_fault
  led_none =
      let none : shown (rules f) led ≡ [] = ap (shown (rules f)) (sym (append-nil led)) ∙ shown-led f past led [] h between in
      shows_nothing (committed_after (fault_of f) [] led) (shown_are_committed f led ∙ none)

  -- after it events commit what they commit after the events before them
  led_commits : (l : List Event) → committed_after (fault_of f) [] (led ++ l) ≡ committed_after (fault_of f) past l
  led_commits l =
      committed_seen (fault_of f) [] led l h.good
      ∙ ap (λ (ts : List Committed). ts ++ committed_after (fault_of f) (onto [] led) l) led_none
      ∙ committed_like f (onto [] led) past l h.force h.between between

  prefix_commits : (m x more s t : List Event) → m ≡ s ++ t → led ++ s ≡ x ++ more → CommitsFrom f past m (committed_after (fault_of f) [] x)
  unfolding committed_after
  prefix_commits m x more s t is e = either (prefixes x more led s (sym e))
    where
      no_more : (a b : List Committed) → a ++ b ≡ [] → a ≡ []
      no_more [] b h = refl
      no_more (t ∷ a) b h = absurd cc

      either : After x more led s ⊎ Shorter x led → CommitsFrom f past m (committed_after (fault_of f) [] x)
      either (inl w) = record { first = w.0; rest = more ++ t; split = is ∙ ap (λ (y : List Event). y ++ t) w.2 ∙ append_assoc w.0 more t; commits = ap (committed_after (fault_of f) []) w.1 ∙ led_commits w.0 }
      either (inr w) =
          let k = committed_append (fault_of f) [] x (w.0 ∷ w.1) in
          record { first = []; rest = m; split = refl; commits = no_more (committed_after (fault_of f) [] x) k.0 (sym k.1 ∙ ap (committed_after (fault_of f) []) (sym w.2) ∙ led_none) }

nothing_comes : (f : List ℕ → ℕ) (format : Format) (limit : ℕ) → stream_committed f format limit [] ≡ []
unfolding stream_committed packets_in event_payloads committed_after
nothing_comes f format limit = refl

-- the events of an answer from a position on
led_is : (f : List ℕ → ℕ) (b : List ℕ) (position : ℕ) (prefix w : List Event) → events_before b position ≡ prefix → events_from b position ≡ w
    → led_events (rules f) b position ≡ option_to_list (newest_description (onto [] prefix)) ++ up_to_fault (damage_of f) (onto [] prefix) w
led_is f b position prefix w e o =
    ap (λ (x : List Event). option_to_list (newest_description (onto [] x)) ++ up_to_fault (damage_of f) (onto [] x) (events_from b position)) e
    ∙ ap (λ (x : List Event). option_to_list (newest_description (onto [] prefix)) ++ up_to_fault (damage_of f) (onto [] prefix) x) o

-- ---- a step

module _ (f : List ℕ → ℕ) (format : Format) (b : List ℕ) (ts : List Transaction) (position n count : ℕ) (h : IsAt f b ts position) (fits : Each (Fits program_limit format) (file_events b)) (closing : length closing_payload ≤ program_limit) where
  abbrev part : List ℕ
  part = take n b

  abbrev stream : List ℕ
  stream = take count (answer_bytes (answer (rules f) format program_limit part position))

  abbrev past : List Event
  past = onto [] h.prefix

  -- the events of the part that is there follow those before the position
  some_sent : (w more : List Event) → has_magic_number part ≡ true → file_events part ≡ h.prefix ++ w → h.later ≡ w ++ more → Each (Fits program_limit format) (file_events part) → CommitsFrom f past h.later (stream_committed f format program_limit stream)
  unfolding stream_committed
  some_sent w more magic is later fit =
      let all = subst (Each (Fits program_limit format)) is fit in
      let s = sends-from (rules f) part position h.prefix w (mild f) magic is (some-each program_limit format h.prefix (Each-prefix (Fits program_limit format) h.prefix w all)) h.are_good h.position_is in
      let le = led_is f part position h.prefix w s.0 (events_from-is part position h.prefix w s.0 is) in
      let ld = leads f past (good-back (fault_of f) [] h.prefix tt h.are_good) in
      let led = subst (Each (Fits program_limit format)) (sym le) (led-fits program_limit format (damage_of f) h.prefix w all) in
      let x = stream-prefix (rules f) format program_limit program_limit part position count s.1 led led closing closing in
      let sent = up_to_fault-begins (damage_of f) past w in
      prefix_commits f past (option_to_list (newest_description past)) ld h.between h.later (stream_events format program_limit stream) x.0
      (up_to_fault (damage_of f) past w) (sent.0 ++ more) (later ∙ ap (λ (y : List Event). y ++ more) sent.1 ∙ append_assoc (up_to_fault (damage_of f) past w) sent.0 more) (sym le ∙ x.1)

  -- fewer events are there
  none_sent : (x : Event) (w : List Event) → h.prefix ≡ file_events part ++ x ∷ w → is_event_boundary part position ≡ true → ⊥
  none_sent x w is edge =
      let whole = some-each program_limit format h.prefix (Each-prefix (Fits program_limit format) h.prefix h.later (subst (Each (Fits program_limit format)) h.split fits)) in
      let some : 0 < length x = (Each-back (λ e. 0 < length e) (file_events part) (x ∷ w) (subst (Each (λ e. 0 < length e)) is whole)).0 in
      let e = edge-is part position edge in
      let l = events_within-le (position - 4) (file_events part) in
      let j = ap (λ (y : List Event). length (joined y)) is ∙ length-joined (file_events part) (x ∷ w) in
      omega (arith, e, l, j, length-append x (joined w), some, h.position_is)

  by_answer : (o : Option Served) → rejection_or_fault (rules f) part position ≡ o → CommitsFrom f past h.later (stream_committed f format program_limit stream)
  unfolding committed_after
  by_answer (Some s) is = record {
    first = [];
    rest = h.later;
    split = refl;
    commits = ap (λ (x : List ℕ). stream_committed f format program_limit (take count x)) (answer-failed (rules f) format program_limit part position s is)
        ∙ ap (stream_committed f format program_limit) (take_all count [] (omega (arith)))
        ∙ nothing_comes f format program_limit;
  }
  by_answer None is =
      let t = sent-then (rules f) part position is in
      let k = with_magic-append part (drop n b) t.0 in
      let e = events-append (drop 4 part) (drop n b) in
      let split : file_events b ≡ file_events part ++ e.0 = ap file_events (sym (take-append-drop n b)) ∙ ap events k.1 ∙ e.1 in
      let fit = Each-prefix (Fits program_limit format) (file_events part) e.0 (subst (Each (Fits program_limit format)) split fits) in
      either t.0 t.1 e.0 fit (prefixes (file_events part) e.0 h.prefix h.later (sym split ∙ h.split))
    where
      either : has_magic_number part ≡ true → is_event_boundary part position ≡ true → (more : List Event) → Each (Fits program_limit format) (file_events part) → After (file_events part) more h.prefix h.later ⊎ Shorter (file_events part) h.prefix
          → CommitsFrom f past h.later (stream_committed f format program_limit stream)
      either magic edge more fit (inl w) = some_sent w.0 more magic w.1 w.2 fit
      either magic edge more fit (inr w) = absurd (none_sent w.0 w.1 w.2 edge)

  step_commits : CommitsFrom f past h.later (stream_committed f format program_limit stream)
  step_commits = by_answer (rejection_or_fault (rules f) part position) refl

-- ---- runs

-- the transactions of all events of a log
abbrev all_of : (List ℕ → ℕ) → List ℕ → List Committed
all_of f b = committed_after (fault_of f) [] (file_events b)

-- after a report: these transactions have its texts, and they are the log's first
record FollowsTo (f : List ℕ → ℕ) (b : List ℕ) (report : Report) (ts : List Committed) : Type 0 where
  at : IsAt f b report.transactions (resume_position report)
  alike : map transaction_of ts ≡ report.transactions
  more : List Committed
  first : all_of f b ≡ ts ++ more

-- two prefixes of a list that have the same length
same_prefix : (a b x y : List Committed) → a ++ x ≡ b ++ y → length a ≡ length b → a ≡ b
same_prefix a b x y is long = sym (take-append_seam a x) ∙ ap (take (length a)) is ∙ ap (λ (n : ℕ). take n (b ++ y)) long ∙ take-append_seam b y

-- they are what the events before the position commit
commits_before : (f : List ℕ → ℕ) (b : List ℕ) (report : Report) (ts : List Committed) → (h : FollowsTo f b report ts) → ts ≡ committed_after (fault_of f) [] h.at.prefix
commits_before f b report ts h =
    let own = committed_after (fault_of f) [] h.at.prefix in
    let k = committed_append (fault_of f) [] h.at.prefix h.at.later in
    let shows : map transaction_of own ≡ map transaction_of ts =
    shown_are f [] h.at.prefix ∙ ap (shown_after (rules f) []) (good-all (fault_of f) [] h.at.prefix h.at.are_good) ∙ sym h.at.shown_is ∙ sym h.alike in
    same_prefix ts own h.more k.0 (sym h.first ∙ ap (committed_after (fault_of f) []) h.at.split ∙ k.1) (sym (length-map ts transaction_of) ∙ ap length (sym shows) ∙ length-map own transaction_of)

module _ (f : List ℕ → ℕ) (format : Format) (b : List ℕ) (followable : IsFollowable (rules f) format b) (step : Step) where
  -- one more answer
  goes_on : (report : Report) (ts : List Committed) → FollowsTo f b report ts
      → FollowsTo f b (grown report (stream_report (rules f) format program_limit (step_stream (rules f) format b report step))) (ts ++ stream_committed f format program_limit (step_stream (rules f) format b report step))
  goes_on report ts h =
      let fits = fits-of program_limit format (file_events b) (closing_payload ∷ []) (events-law (drop 4 b)).0 followable.limits in
      let closing = closing-fits program_limit format (file_events b) followable.limits in
      let s = step_commits f format b report.transactions (resume_position report) step.size step.count h.at fits closing in
      let stream = step_stream (rules f) format b report step in
      let new = stream_committed f format program_limit stream in
      let shows : map transaction_of new ≡ stream_transactions (rules f) format program_limit stream = stream_shows f format program_limit stream in
      let k = committed_append (fault_of f) [] (h.at.prefix ++ s.first) s.rest in
      let here : ts ++ new ≡ committed_after (fault_of f) [] (h.at.prefix ++ s.first) =
      ap (λ (x : List Committed). x ++ new) (commits_before f b report ts h)
      ∙ ap (λ (x : List Committed). committed_after (fault_of f) [] h.at.prefix ++ x) s.commits
      ∙ sym (committed_seen (fault_of f) [] h.at.prefix s.first h.at.are_good) in
      record {
        at = represents-after f b report.transactions (resume_position report) (stream_transactions (rules f) format program_limit stream) followable.positions h.at refl
            (record { first = s.first; rest = s.rest; split = s.split; shows = sym shows ∙ ap (map transaction_of) s.commits ∙ shown_are f (onto [] h.at.prefix) s.first });
        alike = map-append transaction_of ts new ∙ ap (λ (x : List Transaction). x ++ map transaction_of new) h.alike ∙ ap (λ (x : List Transaction). report.transactions ++ x) shows;
        more = k.0;
        first = ap (committed_after (fault_of f) []) (h.at.split ∙ ap (λ (x : List Event). h.at.prefix ++ x) s.split ∙ sym (append_assoc h.at.prefix s.first s.rest)) ∙ k.1 ∙ ap (λ (x : List Committed). x ++ k.0) (sym here);
      }

  -- none, if the run is over
  next_to : (report : Report) (ts : List Committed) (over : Bool) → FollowsTo f b report ts
      → FollowsTo f b (elim over [ true ↦ report | false ↦ grown report (stream_report (rules f) format program_limit (step_stream (rules f) format b report step)) ])
      (ts ++ (elim over [ true ↦ [] | false ↦ stream_committed f format program_limit (step_stream (rules f) format b report step) ]))
  next_to report ts true h = record {
    at = h.at;
    alike = ap (map transaction_of) (append-nil ts) ∙ h.alike;
    more = h.more;
    first = h.first ∙ ap (λ (x : List Committed). x ++ h.more) (sym (append-nil ts));
  }
  next_to report ts false h = goes_on report ts h

follows_to : (f : List ℕ → ℕ) (format : Format) (b : List ℕ) → IsFollowable (rules f) format b → (steps : List Step) → FollowsTo f b (run_back (rules f) format b steps) (committed_back f format b steps)
unfolding run_back next_report committed_back step_committed
follows_to f format b followable [] = record { at = at-first f b; alike = refl; more = all_of f b; first = refl }
follows_to f format b followable (step ∷ earlier) =
    next_to f format b followable step (run_back (rules f) format b earlier) (committed_back f format b earlier) (is_fault_verdict (run_back (rules f) format b earlier).verdict) (follows_to f format b followable earlier)

magic_committed : (f : List ℕ → ℕ) (b : List ℕ) → has_magic_number b ≡ true → file_committed f b ≡ all_of f b
unfolding file_committed
magic_committed f b magic = rw magic refl

pub from_the_log : (f : List ℕ → ℕ) (format : Format) (b : List ℕ) (steps : List Step) → IsFollowable (rules f) format b → IsFromTheLog f format b steps (run_committed f format b steps)
from_the_log f format b steps followable =
    let ts = run_committed f format b steps in
    let h = follows_to f format b followable (onto [] steps) in
    let printed = prints-the-log f format b steps followable in
    record {
      each_once = (length ts, sym (ap (take (length ts)) (magic_committed f b followable.magic ∙ h.first) ∙ take-append_seam ts h.more));
      all = λ earlier step later split came.
          omega (
            arith,
            printed.all earlier step later split came,
            ap length (sym (file_shows_committed f (take step.size b))) ∙ length-map (file_committed f (take step.size b)) transaction_of,
            ap length (sym h.alike) ∙ length-map ts transaction_of,
          );
    }
