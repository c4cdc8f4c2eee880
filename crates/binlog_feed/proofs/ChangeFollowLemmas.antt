-- What a follower of changes has lent and passed: the transactions that a stream commits, one after the other.
use Rattle.std.proofs.Common.{◌≡◌, inr, ℕ, Bool, true, false, List, [], ◌∷◌, ◌++◌, Option, Some, None, Result, Ok, Err, refl, sym, ap, subst, ◌∙◌, append_assoc}
use Rattle.std.specs.Prelude.{unwrap_or, map, IfSome, IfErr, OnOk}
use Rattle.std.specs.Bool.{⊤}
use Rattle.std.proofs.lemmas.List.{append-nil, map-append}
use Rattle.wire_packets.specs.CodecState as codec
use Rattle.feed_checks.specs.declared.verdict.Verdict.{Verdict}
use Rattle.feed_checks.specs.declared.verdict.Verdict.TheVariants as verdicts
use Rattle.feed_checks.specs.EventFields.{Event}
use Rattle.feed_checks.specs.LogFormat.{joined}
use Rattle.feed_checks.specs.PastLists.{onto}
use Rattle.feed_transactions.proofs.RuleLemmas.{up_to_fault-stop, onto-snoc}
use Rattle.feed_transactions.proofs.CommittedLemmas.{committed_are_shown}
use Rattle.feed_transactions.specs.Changes.{Committed, committed_by, transaction_of}
use Rattle.feed_transactions.specs.Checks.{fault_of}
use Rattle.feed_transactions.specs.FeedSteps.{HasShown}
use Rattle.feed_transactions.specs.ReportLaws.{in_log_order}
use Rattle.feed_transactions.specs.Rules.{Rules, Judge, rules, up_to_fault, good}
use Rattle.feed_transactions.specs.Transactions.{Transaction}
use Rattle.feed_replication.specs.declared.format.PayloadFormat.{PayloadFormat as Format}
use Rattle.feed_replication.specs.declared.format.PayloadFormat.TheVariants.{Plain}
use Rattle.feed_replication.specs.Streams.{event_in, stream_events, stream_transactions, stream_verdict}
use Rattle.feed_change_log.proofs.LogLemmas.{commits_step, commits_stop, good_step, shown_are_committed}
use Rattle.feed_change_log.specs.CommittedLists.{committed_after}
use Rattle.feed_change_log.specs.KeptChanges.{IsOpenChanges, IsDoneChanges}
use Rattle.feed_change_log.specs.Stops.{last_log_pos}
use Rattle.feed_change_log.specs.declared.change_recorder.ChangeRecorder.{ChangeRecorder}
use Rattle.feed_replication.specs.Acknowledgements.{is_ack_requested, requested_acks}
use Rattle.feed_replication.specs.ResumePositions.{last_position, position_after}
use Rattle.feed_replication.specs.AnswerReaders as answer
use Rattle.feed_replication.specs.AnswerSteps.{Yields, YieldsFirst, HasTakenOne, EndsBy, Completes}
use Rattle.feed_replication.specs.Following.{AddsAllDue, AddsSomeDue}
use Rattle.feed_replication.specs.declared.answer_reader.AnswerReader.{AnswerReader}
use Rattle.feed_replication.specs.declared.answer_reader.TakenEvent.{TakenEvent}
use Rattle.feed_replication.proofs.AnswerLemmas.{before_piece, running}
use Rattle.feed_replication.proofs.FollowLemmas.{joined-append, first_of}
use Rattle.feed_replication.proofs.StreamLemmas.{requested_acks-more}
use Rattle.binlog_feed.specs.StreamCommits.{stream_committed, committed_in, position_after_last}
use Rattle.binlog_feed.specs.ChangeFollowing.{limit_of, name_of, verdict_in, asked_position_of, next_position_of, due_of, HasTransaction, Reading, commits_of, acks_of, events_back, RunsOut, listed, IsLent, Holds, IsAt, KeepsSettings, RepresentsStream, Starts, Lends, HasAll, EndsWith, Ends, Takes, IsOver, Passes, reading_of, error_of}
use Rattle.binlog_feed.specs.declared.change_follower.ChangeFollower.{ChangeFollower}

-- ---- the transactions of a stream

-- what events commit, after these events
abbrev pub commits_after : List Event → List Event → List Committed
commits_after past [] = []
commits_after past (e ∷ l) = committed_by past e ++ commits_after (e ∷ past) l

pub committed_good : (judge : Judge) (past l : List Event) → committed_after judge past l ≡ commits_after past (up_to_fault judge past l)
unfolding committed_after up_to_fault
committed_good judge past [] = refl
committed_good judge past (e ∷ l) = either (judge past e) refl (committed_good judge (e ∷ past) l)
  where
    either : (o : Option Verdict) → judge past e ≡ o → committed_after judge (e ∷ past) l ≡ commits_after (e ∷ past) (up_to_fault judge (e ∷ past) l) → committed_after judge past (e ∷ l) ≡ commits_after past (up_to_fault judge past (e ∷ l))
    either None is rest = commits_step judge past e l is ∙ ap (λ (ts : List Committed). committed_by past e ++ ts) rest ∙ sym (ap (commits_after past) (good_step judge past e l is))
    either (Some v) is rest = commits_stop judge past e l v is ∙ sym (ap (commits_after past) (up_to_fault-stop judge past e l v is))

commits_in_order : (past l : List Event) → commits_after [] (in_log_order past l) ≡ committed_in past ++ commits_after past l
commits_in_order [] l = refl
commits_in_order (e ∷ past) l = commits_in_order past (e ∷ l) ∙ sym (append_assoc (committed_in past) (committed_by past e) (commits_after (e ∷ past) l))

-- the good events of a stream begin with those that were taken
stream_commits : (f : List ℕ → ℕ) (format : Format) (limit : ℕ) (s : List ℕ) (past m : List Event) → good (rules f) (stream_events format limit s) ≡ in_log_order past m → stream_committed f format limit s ≡ committed_in past ++ commits_after past m
unfolding stream_committed
stream_commits f format limit s past m h = committed_good (fault_of f) [] (stream_events format limit s) ∙ ap (commits_after []) h ∙ commits_in_order past m

stream_commits_all : (f : List ℕ → ℕ) (format : Format) (limit : ℕ) (s : List ℕ) (past : List Event) → good (rules f) (stream_events format limit s) ≡ in_log_order past [] → stream_committed f format limit s ≡ committed_in past
stream_commits_all f format limit s past h = stream_commits f format limit s past [] h ∙ append-nil (committed_in past)

pub stream_shows : (f : List ℕ → ℕ) (format : Format) (limit : ℕ) (s : List ℕ) → map transaction_of (stream_committed f format limit s) ≡ stream_transactions (rules f) format limit s
unfolding stream_committed stream_transactions
stream_shows f format limit s = shown_are_committed f (stream_events format limit s)

-- ---- the position after the last transaction

last_of : (ts : List Committed) (o : Option ℕ) → last_log_pos ts o ≡ elim (last_position (map transaction_of ts)) as (λ _. Option ℕ) [ None ↦ o | Some p ↦ Some p ]
last_of [] o = refl
last_of (t ∷ ts) o = last_of ts (Some t.commit.log_pos) ∙ either (last_position (map transaction_of ts))
  where
    either : (l : Option ℕ) → elim l as (λ _. Option ℕ) [ None ↦ Some t.commit.log_pos | Some p ↦ Some p ] ≡ elim (elim l as (λ _. Option ℕ) [ None ↦ Some t.commit.log_pos | Some p ↦ Some p ]) as (λ _. Option ℕ) [ None ↦ o | Some p ↦ Some p ]
    either None = refl
    either (Some p) = refl

last_is : (ts : List Committed) → last_log_pos ts None ≡ last_position (map transaction_of ts)
last_is ts = last_of ts None ∙ either (last_position (map transaction_of ts))
  where
    either : (l : Option ℕ) → elim l as (λ _. Option ℕ) [ None ↦ None | Some p ↦ Some p ] ≡ l
    either None = refl
    either (Some p) = refl

pub resumes_alike : (f : List ℕ → ℕ) (format : Format) (limit : ℕ) (s : List ℕ) (q : ℕ) → position_after_last (stream_committed f format limit s) q ≡ position_after (rules f) format limit s q
resumes_alike f format limit s q = ap (λ (o : Option ℕ). unwrap_or o q) (last_is (stream_committed f format limit s) ∙ ap last_position (stream_shows f format limit s))

-- what events show is what they commit
shown_by_commits : (f : List ℕ → ℕ) (past : List Event) → map transaction_of (committed_in past) ≡ answer.shown_in (rules f) past
shown_by_commits f [] = refl
shown_by_commits f (e ∷ past) =
    map-append transaction_of (committed_in past) (committed_by past e)
    ∙ ap (λ (ts : List Transaction). ts ++ map transaction_of (committed_by past e)) (shown_by_commits f past)
    ∙ ap (λ (ts : List Transaction). answer.shown_in (rules f) past ++ ts) (committed_are_shown past e)

resumes_by : (f : List ℕ → ℕ) (past : List Event) (n q : ℕ) → n ≡ unwrap_or (last_position (answer.shown_in (rules f) past)) q → n ≡ position_after_last (committed_in past) q
resumes_by f past n q is = is ∙ sym (ap (λ (o : Option ℕ). unwrap_or o q) (last_is (committed_in past) ∙ ap last_position (shown_by_commits f past)))

-- ---- acknowledgements

none_due : (all : List (List ℕ)) (old new : List ℕ) → new ≡ old → AddsAllDue all all old new
none_due all old new same = record { rest = []; is_all = sym (append-nil all); waits = same ∙ sym (append-nil old) }

-- the same for equal lists
due_same : (before all alls : List (List ℕ)) (old now new : List ℕ) → all ≡ alls → new ≡ now → AddsAllDue before all old now → AddsAllDue before alls old new
due_same before all alls old now new are same h = record { rest = h.rest; is_all = sym are ∙ h.is_all; waits = same ∙ h.waits }

-- more became due in two steps
due_then : (before mid all : List (List ℕ)) (old now new : List ℕ) → AddsAllDue before mid old now → AddsAllDue mid all now new → AddsAllDue before all old new
due_then before mid all old now new h k = record {
  rest = h.rest ++ k.rest;
  is_all = k.is_all ∙ ap (λ (l : List (List ℕ)). l ++ k.rest) h.is_all ∙ append_assoc before h.rest k.rest;
  waits = k.waits ∙ ap (λ (l : List ℕ). l ++ joined k.rest) h.waits ∙ append_assoc old (joined h.rest) (joined k.rest) ∙ ap (λ (l : List ℕ). old ++ l) (sym (joined-append h.rest k.rest));
}

-- those of the stream begin with them
some_due : (before mid more all : List (List ℕ)) (old now new : List ℕ) → AddsAllDue before mid old now → all ≡ mid ++ more → new ≡ now → AddsSomeDue before all old new
some_due before mid more all old now new h is same = record { some = h.rest; more = more; is_all = is ∙ ap (λ (l : List (List ℕ)). l ++ more) h.is_all; waits = same ∙ h.waits }

-- the same after more of them
some_then : (before mid all : List (List ℕ)) (old now new : List ℕ) → AddsAllDue before mid old now → AddsSomeDue mid all now new → AddsSomeDue before all old new
some_then before mid all old now new h k = record {
  some = h.rest ++ k.some;
  more = k.more;
  is_all = k.is_all ∙ ap (λ (l : List (List ℕ)). (l ++ k.some) ++ k.more) h.is_all ∙ ap (λ (l : List (List ℕ)). l ++ k.more) (append_assoc before h.rest k.some);
  waits = k.waits ∙ ap (λ (l : List ℕ). l ++ joined k.some) h.waits ∙ append_assoc old (joined h.rest) (joined k.some) ∙ ap (λ (l : List ℕ). old ++ l) (sym (joined-append h.rest k.some));
}

-- one more payload
one_due : (format : Format) (name : List ℕ) (ps : List (List ℕ)) (p acks : List (List ℕ)) (q old new : List ℕ) → p ≡ q ∷ [] → acks ≡ requested_acks format name ps → new ≡ old ++ joined (requested_acks format name p) → AddsAllDue acks (requested_acks format name (ps ++ p)) old new
one_due format name ps p acks q old new is are put =
    record { rest = requested_acks format name p; is_all = rw is (requested_acks-more format name ps q) ∙ ap (λ (l : List (List ℕ)). l ++ requested_acks format name p) (sym are); waits = put }

-- ---- what a follower's state represents

module _ {F : Type 0} (x : Reading) (f : ChangeFollower F) (s : List ℕ) (ps : List (List ℕ)) (past : List Event) (none : verdict_in f ≡ None) (limits : limit_of f ≡ x.limit) where
  -- no transaction is lent
  pub at_taken : f.lent ≡ None → answer.HasTaken IsOpenChanges (rules x.sum) x.format f.answer s ps past past → IsAt x f s (committed_in past) None (requested_acks x.format x.name ps)
  at_taken lent h =
      let y = first_of IsOpenChanges (rules x.sum) x.format x.limit f.answer s ps past past limits h in
      let a = y.acknowledged x.name in
      record {
        goes_on = none;
        more = commits_after past y.more;
        commits = stream_commits x.sum x.format x.limit s past y.more y.events;
        lends = tt;
        resumes = resumes_by x.sum past (next_position_of f) (asked_position_of f) h.position_is;
        more_acks = a.0;
        asks = a.1;
        payloads = ps;
        past = past;
        holds = subst (λ (o : Option TakenEvent). Holds x f s ps past o None) (sym lent) h;
        dealt_are = refl;
        acks_are = refl;
      }

  -- this one is
  pub at_one : (event : TakenEvent) (t : Committed) → f.lent ≡ Some event → HasTransaction f t → IsLent x f s ps past event t → IsAt x f s (committed_in past) (Some t) (requested_acks x.format x.name ps)
  at_one event t lent has one =
      let e = event_in x.format one.payload in
      let y = first_of IsOpenChanges (rules x.sum) x.format x.limit f.answer s (ps ++ one.payload ∷ []) (e ∷ past) past limits one.taken in
      let a = y.acknowledged x.name in
      let own = requested_acks x.format x.name (one.payload ∷ []) in
      record {
        goes_on = none;
        more = commits_after (e ∷ past) y.more;
        commits = stream_commits x.sum x.format x.limit s (e ∷ past) y.more y.events
            ∙ append_assoc (committed_in past) (committed_by past e) (commits_after (e ∷ past) y.more)
            ∙ ap (λ (ts : List Committed). committed_in past ++ (ts ++ commits_after (e ∷ past) y.more)) one.commits;
        lends = has;
        resumes = resumes_by x.sum past (next_position_of f) (asked_position_of f) one.taken.position_is;
        more_acks = own ++ a.0;
        asks = a.1 ∙ ap (λ (l : List (List ℕ)). l ++ a.0) (requested_acks-more x.format x.name ps one.payload) ∙ append_assoc (requested_acks x.format x.name ps) own a.0;
        payloads = ps;
        past = past;
        holds = subst (λ (o : Option TakenEvent). Holds x f s ps past o (Some t)) (sym lent) one;
        dealt_are = refl;
        acks_are = refl;
      }

  at_holds : (o : Option TakenEvent) (lent : Option Committed) → f.lent ≡ o → IfSome lent (λ t. HasTransaction f t) → Holds x f s ps past o lent → IsAt x f s (committed_in past) lent (requested_acks x.format x.name ps)
  at_holds None None is has h = at_taken is h
  at_holds (Some event) (Some t) is has h = at_one event t is has h
  at_holds None (Some t) is has h = absurd h
  at_holds (Some event) None is has h = absurd h

-- for equal lists
pub at_same : {F : Type 0} (x : Reading) (f : ChangeFollower F) (s : List ℕ) (dealt d : List Committed) (lent : Option Committed) (acks a : List (List ℕ)) → dealt ≡ d → acks ≡ a → IsAt x f s d lent a → IsAt x f s dealt lent acks
at_same x f s dealt d lent acks a p q h = subst (λ (l : List Committed). IsAt x f s l lent acks) (sym p) (subst (λ (l : List (List ℕ)). IsAt x f s d lent l) (sym q) h)

-- ---- a follower that has taken the same of a stream

module _ {F : Type 0} (x : Reading) (f g : ChangeFollower F) (s t : List ℕ) (recorder : answer.recorder_in g.answer ≡ answer.recorder_in f.answer)
    (keeps : (r : Rules) (format : Format) (ps : List (List ℕ)) (past completed : List Event) → answer.HasTaken IsOpenChanges r format f.answer s ps past completed → answer.HasTaken IsOpenChanges r format g.answer t ps past completed) where
  moved : (ps : List (List ℕ)) (past : List Event) (o : Option TakenEvent) (lent : Option Committed) → Holds x f s ps past o lent → Holds x g t ps past o lent
  moved ps past None None h = keeps (rules x.sum) x.format ps past past h
  moved ps past (Some event) (Some c) h = record {
    payload = h.payload;
    taken = keeps (rules x.sum) x.format (ps ++ h.payload ∷ []) (event_in x.format h.payload ∷ past) past h.taken;
    commits = h.commits;
    is_commit = h.is_commit;
    position = h.position;
    is_ack_requested = h.is_ack_requested;
  }
  moved ps past None (Some c) h = absurd h
  moved ps past (Some event) None h = absurd h

  has_kept : (lent : Option Committed) → IfSome lent (λ c. HasTransaction f c) → IfSome lent (λ c. HasTransaction g c)
  has_kept None h = tt
  has_kept (Some c) h = rw recorder h

  pub at_moved : (dealt : List Committed) (lent : Option Committed) (acks : List (List ℕ)) → verdict_in g ≡ None → limit_of g ≡ x.limit → g.lent ≡ f.lent → IsAt x f s dealt lent acks → IsAt x g t dealt lent acks
  at_moved dealt lent acks none limits same h =
      at_same x g t dealt (committed_in h.past) lent acks (requested_acks x.format x.name h.payloads) h.dealt_are h.acks_are
      (at_holds x g t h.payloads h.past none limits f.lent lent same (has_kept lent h.lends) (moved h.payloads h.past f.lent lent h.holds))

-- ---- the transaction that is lent is passed

-- the recorder has it
shows_it : (s : ChangeRecorder) (b : Bool) (ts : List Committed) (t : Committed) → b ≡ true → ts ≡ t ∷ [] → IsDoneChanges s t → HasShown IsDoneChanges s b ts
shows_it s true ts t h is has = (t, is, has)
shows_it s false ts t h is has = absurd cc

-- none is
pub passes_none : {F : Type 0} (x : Reading) (f : ChangeFollower F) (s : List ℕ) (dealt : List Committed) (lent : Option Committed) (acks : List (List ℕ)) → f.lent ≡ None → IsAt x f s dealt lent acks → Passes x f f s dealt lent acks
passes_none x f s dealt None acks is h = record { all_acks = acks; at = at_same x f s (dealt ++ []) dealt None acks acks (append-nil dealt) refl h; due = none_due acks (due_of f) (due_of f) refl }
passes_none x f s dealt (Some t) acks is h = absurd (subst (λ (o : Option TakenEvent). Holds x f s h.payloads h.past o (Some t)) is h.holds)

pub passes_one : {F : Type 0} (x : Reading) (f g : ChangeFollower F) (s : List ℕ) (dealt : List Committed) (lent : Option Committed) (acks : List (List ℕ)) (taken : TakenEvent) → f.lent ≡ Some taken → g.lent ≡ None → verdict_in g ≡ verdict_in f → limit_of g ≡ x.limit → name_of f ≡ x.name
    → ((ps : List (List ℕ)) (past : List Event) (one : HasTakenOne IsOpenChanges IsDoneChanges (rules x.sum) x.format f.answer s ps past taken) → Completes IsOpenChanges (rules x.sum) x.format f.answer g.answer s ps past one.payload) → IsAt x f s dealt lent acks → Passes x f g s dealt lent acks
passes_one x f g s dealt None acks taken is lent verdict limits name completes h = absurd (subst (λ (o : Option TakenEvent). Holds x f s h.payloads h.past o None) is h.holds)
passes_one x f g s dealt (Some t) acks taken is lent verdict limits name completes h =
    let held = subst (λ (o : Option TakenEvent). Holds x f s h.payloads h.past o (Some t)) is h.holds in
    let p = held.payload in
    let e = event_in x.format p in
    let one : HasTakenOne IsOpenChanges IsDoneChanges (rules x.sum) x.format f.answer s h.payloads h.past taken =
    record { payload = p; taken = held.taken; shows = shows_it (answer.recorder_in f.answer) taken.commits (committed_by h.past e) t held.is_commit held.commits h.lends; position = held.position; is_ack_requested = held.is_ack_requested } in
    let now = completes h.payloads h.past one in
    let dealt_is : dealt ++ (t ∷ []) ≡ committed_in (e ∷ h.past) = ap (λ (ts : List Committed). ts ++ (t ∷ [])) h.dealt_are ∙ ap (λ (ts : List Committed). committed_in h.past ++ ts) (sym held.commits) in
    record {
      all_acks = requested_acks x.format x.name (h.payloads ++ p ∷ []);
      at = at_same x g s (dealt ++ (t ∷ [])) (committed_in (e ∷ h.past)) None _ _ dealt_is refl (at_taken x g s (h.payloads ++ p ∷ []) (e ∷ h.past) (verdict ∙ h.goes_on) limits lent now.taken);
      due = one_due x.format x.name h.payloads (p ∷ []) acks p (due_of f) (due_of g) refl h.acks_are (now.due_acks ∙ ap (λ (n : List ℕ). due_of f ++ joined (requested_acks x.format n (p ∷ []))) name);
    }

-- a plain answer asks for no acknowledgement
plain_asks : (format : Format) (p : List ℕ) → format ≡ Plain → is_ack_requested format p ≡ false
plain_asks format p h = rw h refl

pub asks_none : {F : Type 0} (x : Reading) (f : ChangeFollower F) (s : List ℕ) (dealt : List Committed) (lent : Option Committed) (acks : List (List ℕ)) (taken : TakenEvent) → f.lent ≡ Some taken → x.format ≡ Plain → IsAt x f s dealt lent acks → taken.is_ack_requested ≡ false
asks_none x f s dealt None acks taken is plain h = absurd (subst (λ (o : Option TakenEvent). Holds x f s h.payloads h.past o None) is h.holds)
asks_none x f s dealt (Some t) acks taken is plain h =
    let held = subst (λ (o : Option TakenEvent). Holds x f s h.payloads h.past o (Some t)) is h.holds in
    held.is_ack_requested ∙ plain_asks x.format held.payload plain

-- ---- events are taken, up to the next that commits a transaction

-- some were that commit nothing
pub record Went {F : Type 0} (x : Reading) (old now : ChangeFollower F) (s : List ℕ) (dealt : List Committed) (acks : List (List ℕ)) : Type 0 where
  pub all_acks : List (List ℕ)
  pub at : IsAt x now s dealt None all_acks
  pub due : AddsAllDue acks all_acks (due_of old) (due_of now)

pub went_none : {F : Type 0} (x : Reading) (f : ChangeFollower F) (s : List ℕ) (dealt : List Committed) (acks : List (List ℕ)) → IsAt x f s dealt None acks → Went x f f s dealt acks
went_none x f s dealt acks h = record { all_acks = acks; at = h; due = none_due acks (due_of f) (due_of f) refl }

-- what was taken of the stream
pub taken_of : {F : Type 0} (x : Reading) (f : ChangeFollower F) (s : List ℕ) (dealt : List Committed) (acks : List (List ℕ)) (o : Option TakenEvent) → f.lent ≡ o → (h : IsAt x f s dealt None acks) → (o ≡ None) × answer.HasTaken IsOpenChanges (rules x.sum) x.format f.answer s h.payloads h.past h.past
taken_of x f s dealt acks None is h = (refl, subst (λ (o : Option TakenEvent). Holds x f s h.payloads h.past o None) is h.holds)
taken_of x f s dealt acks (Some taken) is h = absurd (subst (λ (o : Option TakenEvent). Holds x f s h.payloads h.past o None) is h.holds)

module _ {F : Type 0} (x : Reading) (old now new : ChangeFollower F) (s : List ℕ) (dealt : List Committed) (acks : List (List ℕ)) (w : Went x old now s dealt acks) (kept : answer.KeepsProgress now.answer new.answer) (limits : limit_of now ≡ x.limit) (names : name_of now ≡ x.name) where
  abbrev ps : List (List ℕ)
  ps = w.at.payloads

  abbrev past : List Event
  past = w.at.past

  -- out of memory
  pub goes_without : (failed : ChangeFollower F) → due_of failed ≡ due_of new → next_position_of failed ≡ next_position_of new → asked_position_of failed ≡ asked_position_of new → RunsOut x old failed s dealt acks
  goes_without failed same position asked =
      let h = (taken_of x now s dealt w.all_acks now.lent refl w.at).1 in
      let taken : past ≡ events_back x ps = h.good.events in
      record {
        payloads = ps;
        first = subst (λ (p : List Event). YieldsFirst (rules x.sum) x.format x.limit s ps p) taken (first_of IsOpenChanges (rules x.sum) x.format x.limit now.answer s ps past past limits h);
        later = [];
        commits = w.at.dealt_are ∙ ap committed_in taken ∙ sym (append-nil (committed_in (events_back x ps)));
        due = due_same acks w.all_acks (requested_acks x.format x.name ps) (due_of old) (due_of now) (due_of failed) w.at.acks_are (same ∙ kept.due_acks) w.due;
        some_due = some_due acks w.all_acks w.at.more_acks (acks_of x s) (due_of old) (due_of now) (due_of failed) w.due w.at.asks (same ∙ kept.due_acks);
        resumes = position
            ∙ kept.position
            ∙ w.at.resumes
            ∙ ap (λ (ts : List Committed). position_after_last ts (asked_position_of now)) (w.at.dealt_are ∙ ap committed_in taken)
            ∙ ap (position_after_last (committed_in (events_back x ps))) (sym (asked ∙ kept.asked_position));
      }

  goes_to : (v : Verdict) → ((more : List ℕ) → Yields (rules x.sum) x.format x.limit (s ++ more) ps past v) → EndsWith x old new s dealt acks v
  goes_to v at =
      let here : Yields (rules x.sum) x.format x.limit s ps past v = subst (λ (y : List ℕ). Yields (rules x.sum) x.format x.limit y ps past v) (append-nil s) (at []) in
      let asked : acks_of x s ≡ w.all_acks = here.acknowledged x.name ∙ sym w.at.acks_are in
      record {
        all = λ more. stream_commits_all x.sum x.format x.limit (s ++ more) past (at more).events ∙ sym w.at.dealt_are;
        verdict_is = λ more. (at more).verdict;
        asks = λ more. (at more).acknowledged x.name ∙ sym (here.acknowledged x.name);
        due = due_then acks w.all_acks (acks_of x s) (due_of old) (due_of now) (due_of new) w.due (record { rest = []; is_all = asked ∙ sym (append-nil w.all_acks); waits = kept.due_acks ∙ sym (append-nil (due_of now)) });
        resumes = kept.position ∙ w.at.resumes ∙ ap (position_after_last dealt) (sym kept.asked_position);
      }

  -- the stream ends
  pub goes_to_end : (v : Verdict) → EndsBy (rules x.sum) x.format x.limit s ps past v → Ends x old new s dealt acks v
  goes_to_end verdicts.Memory ends = goes_without new refl refl refl
  goes_to_end v ends = goes_to v ends

  -- no further packet is complete
  pub goes_to_wait : new.lent ≡ None → answer.HasTaken IsOpenChanges (rules x.sum) x.format new.answer s ps past past × codec.Halts (limit_of new) 1 ps new.answer.incoming.gathered.items new.answer.incoming.received.items None → HasAll x old new s dealt acks
  goes_to_wait lent h =
      let none : verdict_in new ≡ None = kept.verdict ∙ w.at.goes_on in
      let limits_now : limit_of new ≡ x.limit = kept.settings.limit ∙ limits in
      let runs : answer.IsRunning IsOpenChanges (rules x.sum) x.format new.answer s = record { payloads = ps; past = past; taken = h.0; halts = h.1; no_verdict = none } in
      let here : Yields (rules x.sum) x.format x.limit s ps past verdicts.Closed = subst (λ (n : ℕ). Yields (rules x.sum) x.format n s ps past verdicts.Closed) limits_now (before_piece IsOpenChanges (rules x.sum) x.format new.answer s runs) in
      let asked : acks_of x s ≡ w.all_acks = here.acknowledged x.name ∙ sym w.at.acks_are in
      record {
        at = at_same x new s dealt (committed_in past) None (acks_of x s) (requested_acks x.format x.name ps) w.at.dealt_are (here.acknowledged x.name) (at_taken x new s ps past none limits_now lent h.0);
        all = stream_commits_all x.sum x.format x.limit s past here.events ∙ sym w.at.dealt_are;
        closed = here.verdict;
        due = due_then acks w.all_acks (acks_of x s) (due_of old) (due_of now) (due_of new) w.due (record { rest = []; is_all = asked ∙ sym (append-nil w.all_acks); waits = kept.due_acks ∙ sym (append-nil (due_of now)) });
        represents = running IsOpenChanges (rules x.sum) x.format new.answer s runs;
      }

  -- the next event commits a transaction, which is lent
  pub goes_to_commit : (taken : TakenEvent) → new.lent ≡ Some taken → taken.commits ≡ true → HasTakenOne IsOpenChanges IsDoneChanges (rules x.sum) x.format new.answer s ps past taken → Lends x old new s dealt acks
  goes_to_commit taken lent shown one =
      let shows = rw shown at one.shows in
      record {
        transaction = shows.0;
        all_acks = w.all_acks;
        at = at_same x new s dealt (committed_in past) (Some shows.0) w.all_acks (requested_acks x.format x.name ps) w.at.dealt_are w.at.acks_are (at_one x new s ps past (kept.verdict ∙ w.at.goes_on) (kept.settings.limit ∙ limits) taken shows.0 lent shows.2 (record { payload = one.payload; taken = one.taken; commits = shows.1; is_commit = shown; position = one.position; is_ack_requested = one.is_ack_requested }));
        due = due_then acks w.all_acks w.all_acks (due_of old) (due_of now) (due_of new) w.due (none_due w.all_acks (due_of now) (due_of new) kept.due_acks);
      }

  -- it commits none, and is completed
  pub goes_on : (done : ChangeFollower F) (taken : TakenEvent) → done.lent ≡ None → taken.commits ≡ false → (one : HasTakenOne IsOpenChanges IsDoneChanges (rules x.sum) x.format new.answer s ps past taken) → answer.KeepsTaken new.answer done.answer → Completes IsOpenChanges (rules x.sum) x.format new.answer done.answer s ps past one.payload → Went x old done s dealt acks
  goes_on done taken lent unshown one keeps completes =
      let shows : committed_by past (event_in x.format one.payload) ≡ [] = rw unshown at one.shows in
      let dealt_is : dealt ≡ committed_in (event_in x.format one.payload ∷ past) = w.at.dealt_are ∙ sym (append-nil (committed_in past)) ∙ ap (λ (ts : List Committed). committed_in past ++ ts) (sym shows) in
      let named : name_of new ≡ x.name = kept.settings.name ∙ names in
      record {
        all_acks = requested_acks x.format x.name (ps ++ one.payload ∷ []);
        at = at_same x done s dealt (committed_in (event_in x.format one.payload ∷ past)) None _ _ dealt_is refl
            (at_taken x done s (ps ++ one.payload ∷ []) (event_in x.format one.payload ∷ past) (keeps.verdict ∙ kept.verdict ∙ w.at.goes_on) (keeps.settings.limit ∙ kept.settings.limit ∙ limits) lent completes.taken);
        due = due_then acks w.all_acks _ (due_of old) (due_of now) (due_of done) w.due
            (one_due x.format x.name ps (one.payload ∷ []) w.all_acks one.payload (due_of now) (due_of done) refl w.at.acks_are
            (completes.due_acks ∙ ap (λ (n : List ℕ). due_of new ++ joined (requested_acks x.format n (one.payload ∷ []))) named ∙ ap (λ (l : List ℕ). l ++ joined (requested_acks x.format x.name (one.payload ∷ []))) kept.due_acks));
      }

-- ---- after the transaction that was lent was passed

lends_then : {F : Type 0} (x : Reading) (old mid new : ChangeFollower F) (s : List ℕ) (dealt : List Committed) (lent : Option Committed) (acks : List (List ℕ)) → (p : Passes x old mid s dealt lent acks) → Lends x mid new s (dealt ++ listed lent) p.all_acks → Lends x old new s (dealt ++ listed lent) acks
lends_then x old mid new s dealt lent acks p h = record { transaction = h.transaction; all_acks = h.all_acks; at = h.at; due = due_then acks p.all_acks h.all_acks (due_of old) (due_of mid) (due_of new) p.due h.due }

has_all_then : {F : Type 0} (x : Reading) (old mid new : ChangeFollower F) (s : List ℕ) (dealt : List Committed) (lent : Option Committed) (acks : List (List ℕ)) → (p : Passes x old mid s dealt lent acks) → HasAll x mid new s (dealt ++ listed lent) p.all_acks → HasAll x old new s (dealt ++ listed lent) acks
has_all_then x old mid new s dealt lent acks p h =
    record { at = h.at; all = h.all; closed = h.closed; due = due_then acks p.all_acks (acks_of x s) (due_of old) (due_of mid) (due_of new) p.due h.due; represents = h.represents }

ends_then : {F : Type 0} (x : Reading) (old mid new : ChangeFollower F) (s : List ℕ) (dealt : List Committed) (lent : Option Committed) (acks : List (List ℕ)) (v : Verdict) → (p : Passes x old mid s dealt lent acks) → EndsWith x mid new s (dealt ++ listed lent) p.all_acks v → EndsWith x old new s (dealt ++ listed lent) acks v
ends_then x old mid new s dealt lent acks v p h =
    record { all = h.all; verdict_is = h.verdict_is; asks = h.asks; due = due_then acks p.all_acks (acks_of x s) (due_of old) (due_of mid) (due_of new) p.due h.due; resumes = h.resumes }

error_then : {F : Type 0} (x : Reading) (old mid new : ChangeFollower F) (s : List ℕ) (dealt : List Committed) (lent : Option Committed) (acks : List (List ℕ)) (v : Verdict) → (p : Passes x old mid s dealt lent acks) → Ends x mid new s (dealt ++ listed lent) p.all_acks v → Ends x old new s (dealt ++ listed lent) acks v
error_then x old mid new s dealt lent acks verdicts.Memory p h = record {
  payloads = h.payloads;
  first = h.first;
  later = h.later;
  commits = h.commits;
  due = due_then acks p.all_acks (requested_acks x.format x.name h.payloads) (due_of old) (due_of mid) (due_of new) p.due h.due;
  some_due = some_then acks p.all_acks (acks_of x s) (due_of old) (due_of mid) (due_of new) p.due h.some_due;
  resumes = h.resumes;
}
error_then x old mid new s dealt lent acks v p h = ends_then x old mid new s dealt lent acks v p h

pub takes_then : {F : Type 0} (x : Reading) (old mid new : ChangeFollower F) (s : List ℕ) (dealt : List Committed) (lent : Option Committed) (acks : List (List ℕ)) (result : Result Bool Verdict) → (p : Passes x old mid s dealt lent acks) → Takes x mid new s (dealt ++ listed lent) p.all_acks result → Takes x old new s (dealt ++ listed lent) acks result
takes_then x old mid new s dealt lent acks (Ok true) p h = lends_then x old mid new s dealt lent acks p h
takes_then x old mid new s dealt lent acks (Ok false) p h = has_all_then x old mid new s dealt lent acks p h
takes_then x old mid new s dealt lent acks (Err v) p h = error_then x old mid new s dealt lent acks v p h

-- a payload fewer comes first too
first_before : (r : Rules) (format : Format) (limit : ℕ) (s : List ℕ) (ps : List (List ℕ)) (p : List ℕ) (earlier : List Event) → YieldsFirst r format limit s (ps ++ p ∷ []) (event_in format p ∷ earlier) → YieldsFirst r format limit s ps earlier
first_before r format limit s ps p earlier h = record {
  more = event_in format p ∷ h.more;
  events = h.events;
  acknowledged = λ name.
      let own = requested_acks format name (p ∷ []) in
      let a = h.acknowledged name in
      (own ++ a.0, a.1 ∙ ap (λ (l : List (List ℕ)). l ++ a.0) (requested_acks-more format name ps p) ∙ append_assoc (requested_acks format name ps) own a.0);
}

-- the events of the payloads before the last
events_before_last : (format : Format) (ps : List (List ℕ)) (p : List ℕ) (past : List Event) → event_in format p ∷ past ≡ onto [] (map (event_in format) (ps ++ p ∷ [])) → past ≡ onto [] (map (event_in format) ps)
events_before_last format ps p past is =
    let all : event_in format p ∷ past ≡ event_in format p ∷ onto [] (map (event_in format) ps) = is ∙ ap (onto []) (map-append (event_in format) ps (p ∷ [])) ∙ onto-snoc [] (map (event_in format) ps) (event_in format p) in
    cc

-- out of memory for the acknowledgement of the transaction that was lent
module _ {F : Type 0} (x : Reading) (old new : ChangeFollower F) (s : List ℕ) (dealt : List Committed) (lent : Option Committed) (acks : List (List ℕ)) (limits : limit_of old ≡ x.limit) (h : IsAt x old s dealt lent acks) (same : due_of new ≡ due_of old)
    (position : next_position_of new ≡ next_position_of old) (asked : asked_position_of new ≡ asked_position_of old) where
  fails_after : YieldsFirst (rules x.sum) x.format x.limit s h.payloads h.past → h.past ≡ events_back x h.payloads → RunsOut x old new s (dealt ++ listed lent) acks
  fails_after first taken = record {
    payloads = h.payloads;
    first = subst (λ (p : List Event). YieldsFirst (rules x.sum) x.format x.limit s h.payloads p) taken first;
    later = listed lent;
    commits = ap (λ (ts : List Committed). ts ++ listed lent) (h.dealt_are ∙ ap committed_in taken);
    due = due_same acks acks (requested_acks x.format x.name h.payloads) (due_of old) (due_of old) (due_of new) h.acks_are same (none_due acks (due_of old) (due_of old) refl);
    some_due = some_due acks acks h.more_acks (acks_of x s) (due_of old) (due_of old) (due_of new) (none_due acks (due_of old) (due_of old) refl) h.asks same;
    resumes = position
        ∙ h.resumes
        ∙ ap (λ (ts : List Committed). position_after_last ts (asked_position_of old)) (h.dealt_are ∙ ap committed_in taken)
        ∙ ap (position_after_last (committed_in (events_back x h.payloads))) (sym asked);
  }

  fails_by : (o : Option TakenEvent) (l : Option Committed) → Holds x old s h.payloads h.past o l → RunsOut x old new s (dealt ++ listed lent) acks
  fails_by None None held = fails_after (first_of IsOpenChanges (rules x.sum) x.format x.limit old.answer s h.payloads h.past h.past limits held) held.good.events
  fails_by (Some event) (Some t) held =
      fails_after (first_before (rules x.sum) x.format x.limit s h.payloads held.payload h.past (first_of IsOpenChanges (rules x.sum) x.format x.limit old.answer s (h.payloads ++ held.payload ∷ []) (event_in x.format held.payload ∷ h.past) h.past limits held.taken))
      (events_before_last x.format h.payloads held.payload h.past held.taken.good.events)
  fails_by None (Some t) held = absurd held
  fails_by (Some event) None held = absurd held

  pub no_acknowledgement : RunsOut x old new s (dealt ++ listed lent) acks
  no_acknowledgement = fails_by old.lent lent h.holds

-- ---- the verdict is kept

pub ends_kept : {F : Type 0} (x : Reading) (old new : ChangeFollower F) (a : AnswerReader ChangeRecorder F) (s : List ℕ) (dealt : List Committed) (acks : List (List ℕ)) (v : Verdict) (o : Option Verdict) → a ≡ answer.with_verdict new.answer o → Ends x old new s dealt acks v → Ends x old (record new { answer = a }) s dealt acks v
ends_kept x old new a s dealt acks verdicts.Memory o is h = rw is (record { payloads = h.payloads; first = h.first; later = h.later; commits = h.commits; due = h.due; some_due = h.some_due; resumes = h.resumes })
ends_kept x old new a s dealt acks v o is h = rw is (record { all = h.all; verdict_is = h.verdict_is; asks = h.asks; due = h.due; resumes = h.resumes })

-- so the state represents the stream, which is over
pub is_over : {F : Type 0} (x : Reading) (old new : ChangeFollower F) (s : List ℕ) (dealt : List Committed) (acks : List (List ℕ)) (v : Verdict) → verdict_in new ≡ Some v → limit_of new ≡ x.limit → name_of new ≡ x.name → EndsWith x old new s dealt acks v → RepresentsStream (rules x.sum) x.format new s
is_over x old new s dealt acks v has limits names h =
    let here : commits_of x s ≡ dealt = ap (commits_of x) (sym (append-nil s)) ∙ h.all [] in
    let shows : (more : List ℕ) → stream_transactions (rules x.sum) x.format x.limit (s ++ more) ≡ map transaction_of dealt = λ more. sym (stream_shows x.sum x.format x.limit (s ++ more)) ∙ ap (map transaction_of) (h.all more) in
    let shown : stream_transactions (rules x.sum) x.format x.limit s ≡ map transaction_of dealt = sym (stream_shows x.sum x.format x.limit s) ∙ ap (map transaction_of) here in (
      h.resumes
          ∙ ap (λ (ts : List Committed). position_after_last ts (asked_position_of new)) (sym here)
          ∙ resumes_alike x.sum x.format x.limit s (asked_position_of new)
          ∙ ap (λ (n : ℕ). position_after (rules x.sum) x.format n s (asked_position_of new)) (sym limits),
      inr (
        v,
        record {
          has_verdict = has;
          verdict_is = λ more. ap (λ (n : ℕ). stream_verdict (rules x.sum) x.format n (s ++ more)) limits ∙ h.verdict_is more;
          transactions_stay = λ more. ap (λ (n : ℕ). stream_transactions (rules x.sum) x.format n (s ++ more)) limits ∙ shows more ∙ sym shown ∙ ap (λ (n : ℕ). stream_transactions (rules x.sum) x.format n s) (sym limits);
          acknowledgements_stay = λ more. rw (limits, names) (h.asks more);
        },
      ),
    )

pub over_by : {F : Type 0} (x : Reading) (old new : ChangeFollower F) (s : List ℕ) (dealt : List Committed) (acks : List (List ℕ)) (v : Verdict) → verdict_in new ≡ Some v → limit_of new ≡ x.limit → name_of new ≡ x.name → Ends x old new s dealt acks v → IsOver x new s (Err v)
over_by x old new s dealt acks verdicts.Memory has limits names h = tt
over_by x old new s dealt acks v has limits names h = is_over x old new s dealt acks v has limits names h

-- a follower whose stream is over isn't at a place where it goes on
pub not_over : {F : Type 0} {A : Type 0} (x : Reading) (f : ChangeFollower F) (s : List ℕ) (dealt : List Committed) (lent : Option Committed) (acks : List (List ℕ)) (v : Verdict) → verdict_in f ≡ Some v → IsAt x f s dealt lent acks → A
not_over x f s dealt lent acks v has h = let none = h.goes_on in absurd cc

-- ---- equal settings

pub reading_same : {F : Type 0} (sum : List ℕ → ℕ) (f g : ChangeFollower F) → KeepsSettings f g → reading_of sum g ≡ reading_of sum f
reading_same sum f g k = rw (k.format, k.limit, k.name) refl

pub takes_from : {F : Type 0} (sum : List ℕ → ℕ) (f g new : ChangeFollower F) (s : List ℕ) (dealt : List Committed) (acks : List (List ℕ)) (result : Result Bool Verdict) → KeepsSettings f g → (IsAt (reading_of sum g) g s dealt None acks → Takes (reading_of sum g) g new s dealt acks result) → IsAt (reading_of sum f) g s dealt None acks → Takes (reading_of sum f) g new s dealt acks result
takes_from sum f g new s dealt acks result k h = subst (λ (x : Reading). IsAt x g s dealt None acks → Takes x g new s dealt acks result) (reading_same sum f g k) h

pub at_own : {F : Type 0} (x : Reading) (sum : List ℕ → ℕ) (f : ChangeFollower F) (s : List ℕ) (dealt : List Committed) (lent : Option Committed) (acks : List (List ℕ)) → x ≡ reading_of sum f → IsAt x f s dealt lent acks → IsAt (reading_of sum f) f s dealt lent acks
at_own x sum f s dealt lent acks same h = subst (λ (y : Reading). IsAt y f s dealt lent acks) same h

-- ---- results

pub both_ok : {E : Type 0} (P Q : Type 0) (a : Result ⊤ E) → OnOk a P → OnOk a Q → OnOk a (P × Q)
both_ok P Q (Ok x) p q = (p, q)
both_ok P Q (Err e) p q = tt

pub error_kept : (old new : Option Verdict) (a : Result ⊤ Verdict) → OnOk a (new ≡ old) → OnOk a (old ≡ None) → IfErr a (λ v. new ≡ Some v) → new ≡ error_of a
error_kept old new (Ok x) same none has = same ∙ none
error_kept old new (Err v) same none has = has

-- ---- before the first byte

pub started_by : {F : Type 0} (format : Format) (position server : ℕ) (name : List ℕ) (limit : ℕ) (checksum : F) (f : ChangeFollower F) (question : List ℕ) → answer.Starts IsOpenChanges format position server name limit checksum f.answer question → ((r : Rules) → answer.HasTaken IsOpenChanges r format f.answer [] [] [] []) → verdict_in f ≡ None → f.lent ≡ None
    → Starts format position server name limit checksum f question
started_by format position server name limit checksum f question h taken none lent = record {
  at = λ sum. at_taken (reading_of sum f) f [] [] [] none refl lent (subst (λ (x : Format). answer.HasTaken IsOpenChanges (rules sum) x f.answer [] [] [] []) (sym h.format_is) (taken (rules sum)));
  represents = h.after;
  request = h.request;
  asked_position = h.asked_position;
  server_is = h.server_is;
  name_is = h.name_is;
  format_is = h.format_is;
  limit_is = h.limit_is;
  checksum_is = h.checksum_is;
  none_waits = h.none_waits;
}

pub asks_again : {F : Type 0} (f : ChangeFollower F) → ((r : Rules) (format : Format) → answer.HasTaken IsOpenChanges r format f.answer [] [] [] []) → verdict_in f ≡ None → f.lent ≡ None → (sum : List ℕ → ℕ) → IsAt (reading_of sum f) f [] [] None []
asks_again f taken none lent sum = at_taken (reading_of sum f) f [] [] [] none refl lent (taken (rules sum) (answer.format_of f.answer))
