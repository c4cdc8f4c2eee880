-- The rest of a report depends only on the bytes after the position, and on the description in force there.
use Rattle.std.proofs.Common.{◌≡◌, ℕ, ◌+◌, List, [], ◌∷◌, ◌++◌, length, drop, Option, refl, sym, ap, subst, ◌∙◌, append_assoc}
use Rattle.std.proofs.lemmas.List.{append_cancel_left, drop-drop}
use Rattle.std.proofs.Math.Seq.{drop-append_seam}
use Rattle.feed_checks.specs.EventFields.{Event, in_force}
use Rattle.feed_transactions.specs.Checks.{fault_of}
use Rattle.feed_checks.specs.declared.verdict.Verdict.{Verdict}
use Rattle.feed_transactions.specs.Rules.{rules, up_to_fault, fault_after, shown_after, shown}
use Rattle.feed_transactions.specs.Transactions.{Transaction}
use Rattle.feed_transactions.proofs.RuleLemmas.{AreGood, fault_after-seen}
use Rattle.feed_transactions.proofs.BetweenLemmas.{AreLike, between-like, faults-like, shows-like}
use Rattle.feed_checks.specs.LogFormat.{AreEvents, EventsEnd, events, events_end, end_of, joined, remaining_bytes}
use Rattle.feed_transactions.specs.Reports.{Report, file_events, file_end, end_verdict, verdict_or}
use Rattle.feed_checks.proofs.EventLemmas.{events-law, events-seen, joined-append}
use Rattle.feed_replication.specs.Positions.{events_before, past_at, events_from}
use Rattle.feed_replication.proofs.RunLemmas.{good-all, shows-prefix, with_magic-transactions}
use Rattle.binlog_feed.specs.Rests.{IsUndamagedUpTo, HasRest}
use Rattle.binlog_feed.proofs.RestLemmas.{IsPosition, is-position, split-at, good-of, with_magic-verdict}

events-before : (seen more : List Event) → AreEvents (seen ++ more) → AreEvents seen
events-before [] more w = tt
events-before (e ∷ seen) more w = (w.0, events-before seen more w.1)

-- the events from a position on, and the end of the log, by the bytes after it
record AreOfTheRest (b : List ℕ) (position : ℕ) : Type 0 where
  events_are : events_from b position ≡ events (drop position b)
  end_is : file_end b ≡ events_end (drop position b)

of-the-rest : (b : List ℕ) (position : ℕ) → position ≡ 4 + length (joined (events_before b position)) → AreOfTheRest b position
of-the-rest b position at =
    let before = events_before b position in
    let from = events_from b position in
    let end = remaining_bytes (drop 4 b) in
    let law = events-law (drop 4 b) in
    let split = split-at b position in
    let whole : AreEvents before = events-before before from (subst AreEvents split law.0) in
    let bytes : drop 4 b ≡ joined before ++ (joined from ++ end) =
    sym law.1 ∙ ap (λ (l : List Event). joined l ++ end) split ∙ ap (λ (t : List ℕ). t ++ end) (joined-append before from) ∙ append_assoc (joined before) (joined from) end in
    let rest : drop position b ≡ joined from ++ end =
    ap (λ (n : ℕ). drop n b) at ∙ sym (drop-drop (length (joined before)) 4 b) ∙ ap (drop (length (joined before))) bytes ∙ drop-append_seam (joined before) (joined from ++ end) in
    let all : before ++ from ≡ before ++ events (joined from ++ end) = sym split ∙ ap events bytes ∙ events-seen before (joined from ++ end) whole in
    let same : from ≡ events (joined from ++ end) = append_cancel_left before from (events (joined from ++ end)) all in
    let after : remaining_bytes (joined from ++ end) ≡ end =
    ap (λ (l : List Event). drop (length (joined l)) (joined from ++ end)) (sym same) ∙ drop-append_seam (joined from) end in
    record {
      events_are = same ∙ ap events (sym rest);
      end_is = ap end_of (sym after) ∙ ap events_end (sym rest);
    }

-- the report with these transactions and this fault, or else the end of these bytes
abbrev report_with : List Transaction → Option Verdict → List ℕ → Report
report_with ts fault bytes = record { transactions = ts; verdict = verdict_or fault (end_verdict (events_end bytes)) }

-- the rest of a report, by the events before it and the bytes after it
abbrev rest_of : (List ℕ → ℕ) → List Event → List ℕ → Report
rest_of f past bytes = report_with (shown_after (rules f) past (up_to_fault (fault_of f) past (events bytes))) (fault_after (fault_of f) past (events bytes)) bytes

has-rest : (f : List ℕ → ℕ) (b : List ℕ) (position : ℕ) → IsUndamagedUpTo (rules f) b position → HasRest (rules f) b position (rest_of f (past_at b position) (drop position b))
has-rest f b position h =
    let before = events_before b position in
    let from = events_from b position in
    let past = past_at b position in
    let p = is-position b position h.between in
    let good : AreGood (fault_of f) [] before = good-of (fault_of f) [] before h.unfaulty in
    let split = split-at b position in
    let rest = of-the-rest b position p.at in
    let here : shown (rules f) before ≡ shown_after (rules f) [] before = ap (shown_after (rules f) []) (good-all (fault_of f) [] before good) in
    record {
      transactions_are = with_magic-transactions (rules f) b h.magic ∙ ap (shown (rules f)) split ∙ shows-prefix f before from good
          ∙ ap (λ (x : List Transaction). x ++ shown_after (rules f) past (up_to_fault (fault_of f) past from)) (sym here)
          ∙ ap (λ (l : List Event). shown (rules f) before ++ shown_after (rules f) past (up_to_fault (fault_of f) past l)) rest.events_are;
      verdict_is = with_magic-verdict (rules f) b h.magic
          ∙ ap (λ (l : List Event). verdict_or (fault_after (fault_of f) [] l) (end_verdict (file_end b))) split
          ∙ ap (λ o. verdict_or o (end_verdict (file_end b))) (fault_after-seen (fault_of f) [] before from good)
          ∙ ap (λ (l : List Event). verdict_or (fault_after (fault_of f) past l) (end_verdict (file_end b))) rest.events_are
          ∙ ap (λ (e : EventsEnd). verdict_or (fault_after (fault_of f) past (events (drop position b))) (end_verdict e)) rest.end_is;
    }

-- two pasts that no later event distinguishes have equal rests
rests-like : (f : List ℕ → ℕ) (past other : List Event) (bytes : List ℕ) → AreLike past other → rest_of f past bytes ≡ rest_of f other bytes
rests-like f past other bytes h =
    ap (λ (ts : List Transaction). report_with ts (fault_after (fault_of f) past (events bytes)) bytes) (shows-like f past other (events bytes) h)
    ∙ ap (λ (o : Option Verdict). report_with (shown_after (rules f) other (up_to_fault (fault_of f) other (events bytes))) o bytes) (faults-like f past other (events bytes) h)

pub equal-rests : (f : List ℕ → ℕ) (b c : List ℕ) (p q : ℕ) → IsUndamagedUpTo (rules f) b p → IsUndamagedUpTo (rules f) c q → in_force (past_at b p) ≡ in_force (past_at c q) → drop p b ≡ drop q c
    → (rest : Report) × HasRest (rules f) b p rest × HasRest (rules f) c q rest
equal-rests f b c p q h k force bytes =
    let like = between-like (past_at b p) (past_at c q) force (is-position b p h.between).between (is-position c q k.between).between in
    let same : rest_of f (past_at c q) (drop q c) ≡ rest_of f (past_at b p) (drop p b) =
    sym (rests-like f (past_at b p) (past_at c q) (drop q c) like) ∙ ap (rest_of f (past_at b p)) (sym bytes) in
    (rest_of f (past_at b p) (drop p b), has-rest f b p h, subst (HasRest (rules f) c q) same (has-rest f c q k))
