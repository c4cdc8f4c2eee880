-- What is applied, answer by answer and step by step.
use Rattle.std.proofs.Common.{◌≡◌, ℕ, Bool, true, false, List, [], ◌∷◌, ◌++◌, length, take, drop, Option, Some, None, Result, refl, sym, ap, subst, ◌∙◌, append_assoc}
use Rattle.std.proofs.lemmas.List.{append-nil, take-append-drop}
use Rattle.std.proofs.Math.Seq.{take-append_seam}
use Rattle.feed_checks.specs.declared.verdict.Verdict.{Verdict}
use Rattle.feed_checks.specs.declared.verdict.Verdict.TheVariants as verdicts
use Rattle.feed_checks.specs.PastLists.{onto}
use Rattle.feed_transactions.specs.Changes.{Committed}
use Rattle.feed_transactions.specs.Reports.{Report}
use Rattle.feed_transactions.specs.Rules.{Rules, rules}
use Rattle.feed_change_log.specs.ChangeLaws.{file_committed}
use Rattle.feed_replication.specs.declared.format.PayloadFormat.{PayloadFormat as Format}
use Rattle.feed_replication.specs.declared.served.Refusal.{Refusal}
use Rattle.feed_replication.specs.declared.served.Served.{Served}
use Rattle.feed_replication.specs.declared.served.Served.TheVariants.{Fault}
use Rattle.feed_replication.specs.declared.step.Step.{Step}
use Rattle.feed_replication.specs.RehearsalSteps.{ends_early}
use Rattle.feed_replication.specs.Sending.{IsServedOf, Serves}
use Rattle.feed_replication.specs.Serving.{answer_to, answer_bytes}
use Rattle.feed_replication.specs.Runs.{resume_position, step_stream, is_fault_verdict, grown, next_report, run_back, run}
use Rattle.feed_replication.specs.Streams.{stream_transactions, stream_report, program_limit}
use Rattle.feed_replication.proofs.GrowthLemmas.{next-is, run-ends}
use Rattle.feed_replication.proofs.RehearsalLemmas.{asked-append}
use Rattle.binlog_feed.specs.Appliers.{HasApplied, Applies, AppliesNext}
use Rattle.binlog_feed.specs.ChangeFollowing.{limit_of, name_of, format_of, asked_position_of, KeepsSettings, HasTransaction, Reading, reading_of, commits_of, verdict_of, listed, ResumesAfter, IsAt, Starts, Lends, HasAll, Ends, Takes}
use Rattle.binlog_feed.specs.ChangeRuns.{step_committed, committed_back, run_committed, IsFromTheLog, AppliesRun, AppliesTheLog}
use Rattle.binlog_feed.specs.ChangeRunSteps.{AppliesAll, AppliesBy, HasRun, AppliesStep}
use Rattle.binlog_feed.specs.StreamCommits.{stream_committed, position_after_last}
use Rattle.binlog_feed.specs.declared.change_follower.ChangeFollower.{ChangeFollower}
use Rattle.binlog_feed.proofs.ChangeFollowLemmas.{reading_same, resumes_alike}

-- ---- the answer

-- one that didn't end early is whole
whole_by : (r : Rules) (format : Format) (limit : ℕ) (asked : Result ℕ Refusal) (b : List ℕ) (unread : Option (List ℕ)) (bytes : List ℕ) (v : Served) → ends_early v ≡ false → IsServedOf r format limit asked b unread bytes v → bytes ≡ answer_bytes (answer_to r format limit asked b)
whole_by r format limit asked b unread bytes (Fault verdicts.Memory) early h = absurd cc
whole_by r format limit asked b unread bytes (Fault verdicts.Read) early h = absurd cc
whole_by r format limit asked b unread bytes (Fault verdicts.Write) early h = absurd cc
whole_by r format limit asked b unread bytes _ early h = h.0

pub whole_is : (r : Rules) (format : Format) (limit : ℕ) (asked : Result ℕ Refusal) (b there old new : List ℕ) (unread : Option (List ℕ)) (v : Served) → ends_early v ≡ false → b ≡ there → old ≡ []
    → Serves r format limit asked (record { input = Some b; unread = unread; before = Some old; written = Some new }) v → new ≡ answer_bytes (answer_to r format limit asked there)
whole_is r format limit asked b there old new unread v early at none h =
    h.1 ∙ ap (λ (x : List ℕ). x ++ h.0) none ∙ whole_by r format limit asked b unread h.0 v early h.2 ∙ ap (λ (x : List ℕ). answer_bytes (answer_to r format limit asked x)) at

-- ---- some transactions after others

module _ {A : Type 0} (has_applied : HasApplied A) where
  pub applies_none : (a : A) → Applies has_applied a a []
  applies_none a = λ before h. subst (has_applied a) (sym (append-nil before)) h

  applies_then : (a b c : A) (ts us : List Committed) → Applies has_applied a b ts → Applies has_applied b c us → Applies has_applied a c (ts ++ us)
  applies_then a b c ts us h k = λ before x. subst (has_applied c) (append_assoc before ts us) (k (before ++ ts) (h before x))

  applies_same : (a b : A) (ts us : List Committed) → ts ≡ us → Applies has_applied a b ts → Applies has_applied a b us
  applies_same a b ts us is h = subst (Applies has_applied a b) is h

-- ---- one answer

-- the transactions that were passed and the one that is lent were applied
pub record Handed {F A : Type 0} (has_applied : HasApplied A) (x : Reading) (f : ChangeFollower F) (s : List ℕ) (old new : A) : Type 0 where
  pub dealt : List Committed
  pub lent : Option Committed
  pub acks : List (List ℕ)
  pub at : IsAt x f s dealt lent acks
  pub applied : Applies has_applied old new (dealt ++ listed lent)

pub handed_none : {F A : Type 0} (has_applied : HasApplied A) (x : Reading) (f : ChangeFollower F) (s : List ℕ) (a : A) → IsAt x f s [] None [] → Handed has_applied x f s a a
handed_none has_applied x f s a at = record { dealt = []; lent = None; acks = []; at = at; applied = applies_none has_applied a }

pub nothing_applied : {F A : Type 0} (has_applied : HasApplied A) (x : Reading) (f : ChangeFollower F) (s : List ℕ) (a : A) (v : Verdict) → v ≡ verdicts.Memory → AppliesBy has_applied x f s a a v
nothing_applied has_applied x f s a v is = rw is (0, applies_none has_applied a)

-- what `advance` does, as the reading of an equal follower says it
pub takes_of : {F : Type 0} (sum : List ℕ → ℕ) (f g new : ChangeFollower F) (s : List ℕ) (dealt : List Committed) (lent : Option Committed) (acks : List (List ℕ)) (result : Result Bool Verdict) → KeepsSettings f g
    → (IsAt (reading_of sum g) g s dealt lent acks → Takes (reading_of sum g) g new s (dealt ++ listed lent) acks result) → IsAt (reading_of sum f) g s dealt lent acks → Takes (reading_of sum f) g new s (dealt ++ listed lent) acks result
takes_of sum f g new s dealt lent acks result k h = subst (λ (x : Reading). IsAt x g s dealt lent acks → Takes x g new s (dealt ++ listed lent) acks result) (reading_same sum f g k) h

module _ {F A : Type 0} (has_applied : HasApplied A) (x : Reading) (now next : ChangeFollower F) (s : List ℕ) (old mid : A) (w : Handed has_applied x now s old mid) where
  abbrev so_far : List Committed
  so_far = w.dealt ++ listed w.lent

  -- the next one was applied
  pub handed_one : (new : A) → Lends x now next s so_far w.acks → ((t : Committed) → HasTransaction next t → AppliesNext has_applied mid new t) → Handed has_applied x next s old new
  handed_one new h apply = record {
    dealt = so_far;
    lent = Some h.transaction;
    acks = h.all_acks;
    at = h.at;
    applied = applies_then has_applied old mid new so_far (h.transaction ∷ []) w.applied (apply h.transaction h.at.lends);
  }

  -- there are no more so far
  pub handed_all : HasAll x now next s so_far w.acks → AppliesAll has_applied x next s old mid verdicts.Closed
  handed_all h = record {
    applied = applies_same has_applied old mid so_far (commits_of x s) (sym h.all) w.applied;
    verdict = h.closed;
    resumes = subst (ResumesAfter next) (sym h.all) h.at.resumes;
  }

  -- the stream ends
  pub handed_end : (v : Verdict) → Ends x now next s so_far w.acks v → AppliesBy has_applied x next s old mid v
  handed_end verdicts.Memory h =
      let split : commits_of x s ≡ so_far ++ w.at.more = w.at.commits ∙ sym (append_assoc w.dealt (listed w.lent) w.at.more) in
      (length so_far, applies_same has_applied old mid so_far (take (length so_far) (commits_of x s)) (sym (ap (take (length so_far)) split ∙ take-append_seam so_far w.at.more)) w.applied)
  handed_end v h =
      let here : commits_of x s ≡ so_far = ap (commits_of x) (sym (append-nil s)) ∙ h.all [] in
      record {
        applied = applies_same has_applied old mid so_far (commits_of x s) (sym here) w.applied;
        verdict = ap (verdict_of x) (sym (append-nil s)) ∙ h.verdict_is [];
        resumes = subst (ResumesAfter next) (sym here) h.resumes;
      }

-- ---- one step

abbrev or_none : Bool → List Committed → List Committed
or_none over ts = elim over [ true ↦ [] | false ↦ ts ]

comes : (over : Bool) (ts : List Committed) → over ≡ false → or_none over ts ≡ ts
comes false ts h = refl
comes true ts h = absurd cc

comes_none : (over : Bool) (ts : List Committed) → over ≡ true → or_none over ts ≡ []
comes_none true ts h = refl
comes_none false ts h = absurd cc

step_is : (f : List ℕ → ℕ) (format : Format) (b : List ℕ) (before : Report) (step : Step) → is_fault_verdict before.verdict ≡ false → step_committed f format b before step ≡ stream_committed f format program_limit (step_stream (rules f) format b before step)
unfolding step_committed
step_is f format b before step goes_on = comes (is_fault_verdict before.verdict) (stream_committed f format program_limit (step_stream (rules f) format b before step)) goes_on

-- the reading of an answer in a run
abbrev pub run_reading : (List ℕ → ℕ) → Format → Reading
run_reading f format = record { sum = f; format = format; limit = program_limit; name = [] }

pub is_run_reading : {F : Type 0} (f : List ℕ → ℕ) (format : Format) (g : ChangeFollower F) → format_of g ≡ format → limit_of g ≡ program_limit → name_of g ≡ [] → reading_of f g ≡ run_reading f format
is_run_reading f format g a b c = rw (a, b, c) refl

module _ {F A : Type 0} (has_applied : HasApplied A) (f : List ℕ → ℕ) (format : Format) (b : List ℕ) (before : Report) (step : Step) (goes_on : is_fault_verdict before.verdict ≡ false) (g : ChangeFollower F) (s : List ℕ) (stream_is : s ≡ step_stream (rules f) format b before step)
    (asked : asked_position_of g ≡ resume_position before) (limits : limit_of g ≡ program_limit) (names : name_of g ≡ []) (formats : format_of g ≡ format) (old new : A) where
  commits_are : commits_of (run_reading f format) s ≡ step_committed f format b before step
  commits_are = ap (stream_committed f format program_limit) stream_is ∙ sym (step_is f format b before step goes_on)

  abbrev next : Report
  next = next_report (rules f) format b before step

  next_are : next ≡ grown before (stream_report (rules f) format program_limit s)
  next_are = next-is (rules f) format b before step goes_on ∙ ap (λ (x : List ℕ). grown before (stream_report (rules f) format program_limit x)) (sym stream_is)

  has_run : ResumesAfter g (commits_of (run_reading f format) s) → HasRun format g next
  has_run resumes = record {
    dealt = commits_of (run_reading f format) s;
    resumes = resumes;
    asks = ap (position_after_last (commits_of (run_reading f format) s)) asked
        ∙ resumes_alike f format program_limit s (resume_position before)
        ∙ sym (asked-append before.transactions (stream_transactions (rules f) format program_limit s) 4)
        ∙ ap resume_position (sym next_are);
    limit_is = limits;
    name_is = names;
    format_is = formats;
  }

  pub step_applied : (v : Verdict) → AppliesBy has_applied (run_reading f format) g s old new v → AppliesStep has_applied f format b before step g old new v
  step_applied verdicts.Memory h = (h.0, subst (λ (ts : List Committed). Applies has_applied old new (take h.0 ts)) commits_are h.1)
  step_applied v h = (applies_same has_applied old new (commits_of (run_reading f format) s) (step_committed f format b before step) commits_are h.applied, sym h.verdict ∙ ap (λ (r : Report). r.verdict) (sym next_are), has_run h.resumes)

-- out of memory before the first
pub step_none : {F A : Type 0} (has_applied : HasApplied A) (f : List ℕ → ℕ) (format : Format) (b : List ℕ) (before : Report) (step : Step) (g : ChangeFollower F) (a : A) → AppliesStep has_applied f format b before step g a a verdicts.Memory
step_none has_applied f format b before step g a = (0, applies_none has_applied a)

-- ---- from step to step

-- some steps were taken, `left` remain, and the transactions of the run so far were applied
pub record IsUnderway {F A : Type 0} (has_applied : HasApplied A) (f : List ℕ → ℕ) (format : Format) (b : List ℕ) (steps left : List Step) (g : ChangeFollower F) (old now : A) (v : Verdict) : Type 0 where
  pub past : List Step
  pub steps_are : onto past left ≡ onto [] steps
  pub ready : HasRun format g (run_back (rules f) format b past)
  pub applied : Applies has_applied old now (committed_back f format b past)
  pub verdict_is : v ≡ (run_back (rules f) format b past).verdict
  pub goes_on : is_fault_verdict v ≡ false

pub begun : {F A : Type 0} (has_applied : HasApplied A) (f : List ℕ → ℕ) (format : Format) (b : List ℕ) (steps : List Step) (g : ChangeFollower F) (question : List ℕ) (checksum : F) (a : A) → Starts format 4 1 [] program_limit checksum g question → IsUnderway has_applied f format b steps steps g a a verdicts.Closed
unfolding run_back committed_back
begun has_applied f format b steps g question checksum a starts = record {
  past = [];
  steps_are = refl;
  ready = record { dealt = []; resumes = (starts.at f).resumes; asks = starts.asked_position; limit_is = starts.limit_is; name_is = starts.name_is; format_is = starts.format_is };
  applied = applies_none has_applied a;
  verdict_is = refl;
  goes_on = refl;
}

committed_grows : (f : List ℕ → ℕ) (format : Format) (b : List ℕ) (past later : List Step) → (more : List Committed) × (committed_back f format b (onto past later) ≡ committed_back f format b past ++ more)
unfolding committed_back
committed_grows f format b past [] = ([], sym (append-nil _))
committed_grows f format b past (step ∷ later) =
    let h = committed_grows f format b (step ∷ past) later in
    let own = step_committed f format b (run_back (rules f) format b past) step in
    (own ++ h.0, h.1 ∙ append_assoc (committed_back f format b past) own h.0)

-- a run that is over commits no more
committed_ends : (f : List ℕ → ℕ) (format : Format) (b : List ℕ) (past later : List Step) → is_fault_verdict (run_back (rules f) format b past).verdict ≡ true → committed_back f format b (onto past later) ≡ committed_back f format b past
unfolding committed_back step_committed
committed_ends f format b past [] over = refl
committed_ends f format b past (step ∷ later) over =
    let stays = run-ends (rules f) format b past (step ∷ []) over in
    let none = comes_none (is_fault_verdict (run_back (rules f) format b past).verdict) (stream_committed f format program_limit (step_stream (rules f) format b (run_back (rules f) format b past) step)) over in
    committed_ends f format b (step ∷ past) later (ap (λ (r : Report). is_fault_verdict r.verdict) stays ∙ over)
    ∙ ap (λ (ts : List Committed). committed_back f format b past ++ ts) none
    ∙ append-nil (committed_back f format b past)

-- a verdict that is no fault
taken_by : {F A : Type 0} (has_applied : HasApplied A) (f : List ℕ → ℕ) (format : Format) (b : List ℕ) (before : Report) (step : Step) (g : ChangeFollower F) (old new : A) (v : Verdict) → is_fault_verdict v ≡ false → AppliesStep has_applied f format b before step g old new v
    → Applies has_applied old new (step_committed f format b before step) × (v ≡ (next_report (rules f) format b before step).verdict) × HasRun format g (next_report (rules f) format b before step)
taken_by has_applied f format b before step g old new verdicts.Memory goes_on h = absurd cc
taken_by has_applied f format b before step g old new _ goes_on h = h

-- what a call does that takes this step
abbrev pub TakesStep : {F A : Type 0} → HasApplied A → (List ℕ → ℕ) → Format → List ℕ → Step → ChangeFollower F → ChangeFollower F → A → A → Verdict → Type 0
TakesStep has_applied f format b step g done old new v = (before : Report) → HasRun format g before → is_fault_verdict before.verdict ≡ false → AppliesStep has_applied f format b before step done old new v

module _ {F A : Type 0} (has_applied : HasApplied A) (f : List ℕ → ℕ) (format : Format) (b : List ℕ) (steps all left : List Step) (step : Step) (g done : ChangeFollower F) (old mid new : A) (u v : Verdict) (first : all ≡ step ∷ left) (h : IsUnderway has_applied f format b steps all g old mid u)
    (takes : TakesStep has_applied f format b step g done mid new v) where
  abbrev taken : AppliesStep has_applied f format b (run_back (rules f) format b h.past) step done mid new v
  taken = takes (run_back (rules f) format b h.past) h.ready (ap is_fault_verdict (sym h.verdict_is) ∙ h.goes_on)

  pub moves_on : is_fault_verdict v ≡ false → IsUnderway has_applied f format b steps left done old new v
  unfolding run_back committed_back
  moves_on goes_on =
      let k = taken_by has_applied f format b (run_back (rules f) format b h.past) step done mid new v goes_on taken in
      record {
        past = step ∷ h.past;
        steps_are = sym (ap (onto h.past) first) ∙ h.steps_are;
        ready = k.2;
        applied = applies_then has_applied old mid new (committed_back f format b h.past) (step_committed f format b (run_back (rules f) format b h.past) step) h.applied k.0;
        verdict_is = k.1;
        goes_on = goes_on;
      }

  abbrev own : List Committed
  own = step_committed f format b (run_back (rules f) format b h.past) step

  steps_then : onto [] steps ≡ onto (step ∷ h.past) left
  steps_then = sym h.steps_are ∙ ap (onto h.past) first

  pub ends : is_fault_verdict v ≡ true → AppliesRun has_applied f format b steps old new v
  unfolding run_back committed_back
  ends over = by v over taken
    where
      regroup : (w x y z : List Committed) → (w ++ (x ++ y)) ++ z ≡ (w ++ x) ++ (y ++ z)
      regroup w x y z = simp append_assoc

      by : (v : Verdict) → is_fault_verdict v ≡ true → AppliesStep has_applied f format b (run_back (rules f) format b h.past) step done mid new v → AppliesRun has_applied f format b steps old new v
      by verdicts.Memory over t =
          let so_far = committed_back f format b h.past in
          let some = take t.0 own in
          let k = committed_grows f format b (step ∷ h.past) left in
          let split : run_committed f format b steps ≡ (so_far ++ some) ++ (drop t.0 own ++ k.0) =
          ap (committed_back f format b) steps_then
          ∙ k.1
          ∙ ap (λ (ts : List Committed). (so_far ++ ts) ++ k.0) (sym (take-append-drop t.0 own))
          ∙ regroup so_far some (drop t.0 own) k.0 in (
            length (so_far ++ some),
            applies_same has_applied old new (so_far ++ some) (take (length (so_far ++ some)) (run_committed f format b steps)) (sym (ap (take (length (so_far ++ some))) split ∙ take-append_seam (so_far ++ some) (drop t.0 own ++ k.0)))
                (applies_then has_applied old mid new so_far some h.applied t.1),
          )
      by v over t =
          let faulty : is_fault_verdict (run_back (rules f) format b (step ∷ h.past)).verdict ≡ true = ap is_fault_verdict (sym t.1) ∙ over in (
            applies_same has_applied old new (committed_back f format b (step ∷ h.past)) (run_committed f format b steps) (sym (ap (committed_back f format b) steps_then ∙ committed_ends f format b (step ∷ h.past) left faulty))
                (applies_then has_applied old mid new (committed_back f format b h.past) own h.applied t.0),
            t.1 ∙ ap (λ (r : Report). r.verdict) (sym (ap (run_back (rules f) format b) steps_then ∙ run-ends (rules f) format b (step ∷ h.past) left faulty)),
          )

-- the last step was taken
pub all_applied : {F A : Type 0} (has_applied : HasApplied A) (f : List ℕ → ℕ) (format : Format) (b : List ℕ) (steps left : List Step) (g : ChangeFollower F) (old new : A) (v : Verdict) → left ≡ [] → IsUnderway has_applied f format b steps left g old new v → AppliesRun has_applied f format b steps old new v
all_applied has_applied f format b steps left g old new v none h = by v h.goes_on applied verdict
  where
    steps_are : onto [] steps ≡ h.past
    steps_are = sym h.steps_are ∙ ap (onto h.past) none

    applied : Applies has_applied old new (run_committed f format b steps)
    applied = applies_same has_applied old new (committed_back f format b h.past) (run_committed f format b steps) (ap (committed_back f format b) (sym steps_are)) h.applied

    verdict : v ≡ (run (rules f) format b steps).verdict
    verdict = h.verdict_is ∙ ap (λ (l : List Step). (run_back (rules f) format b l).verdict) (sym steps_are)

    by : (v : Verdict) → is_fault_verdict v ≡ false → Applies has_applied old new (run_committed f format b steps) → v ≡ (run (rules f) format b steps).verdict → AppliesRun has_applied f format b steps old new v
    by verdicts.Memory goes_on a is = absurd cc
    by _ goes_on a is = (a, is)

-- ---- the log's transactions, in order, each once

pub follows_log : {A : Type 0} (has_applied : HasApplied A) (f : List ℕ → ℕ) (format : Format) (b : List ℕ) (steps : List Step) (old new : A) (v : Verdict) → IsFromTheLog f format b steps (run_committed f format b steps) → AppliesRun has_applied f format b steps old new v → AppliesTheLog has_applied f format b steps old new v
follows_log has_applied f format b steps old new v p h = by v h
  where
    ts : List Committed
    ts = run_committed f format b steps

    rest : List Committed
    rest = drop p.each_once.0 (file_committed f b)

    split : file_committed f b ≡ ts ++ rest
    split = sym (take-append-drop p.each_once.0 (file_committed f b)) ∙ ap (λ (x : List Committed). x ++ rest) (sym p.each_once.1)

    first_of : (j : ℕ) → take j ts ≡ take (length (take j ts)) (file_committed f b)
    first_of j =
        let more : file_committed f b ≡ take j ts ++ (drop j ts ++ rest) = split ∙ ap (λ (x : List Committed). x ++ rest) (sym (take-append-drop j ts)) ∙ append_assoc (take j ts) (drop j ts) rest in
        sym (ap (take (length (take j ts))) more ∙ take-append_seam (take j ts) (drop j ts ++ rest))

    by : (v : Verdict) → AppliesRun has_applied f format b steps old new v → AppliesTheLog has_applied f format b steps old new v
    by verdicts.Memory h = (length (take h.0 ts), applies_same has_applied old new (take h.0 ts) (take (length (take h.0 ts)) (file_committed f b)) (first_of h.0) h.1)
    by _ h = (ts, p, h.0)
