-- A rehearsal from step to step.
use Rattle.std.proofs.Common.{◌≡◌, ℕ, Bool, true, false, List, [], ◌∷◌, ◌++◌, length, take, drop, Option, Some, None, refl, sym, ap, subst, ◌∙◌, append_assoc, arith}
use Rattle.std.specs.Prelude.{unwrap_or, min, IfSome}
use Rattle.std.specs.Io.KnownBytes.{Appends}
use Rattle.std.proofs.lemmas.List.{append-nil, map-append, take-append-drop, take-map, take_min}
use Rattle.std.proofs.Math.Seq.{take-append_seam}
use Rattle.wire_packets.specs.Packets.{packets_in}
use Rattle.feed_checks.specs.declared.verdict.Verdict.{Verdict}
use Rattle.feed_checks.specs.declared.verdict.Verdict.TheVariants as verdicts
use Rattle.feed_transactions.specs.Rules.{Rules, up_to_fault, shown_after}
use Rattle.feed_checks.specs.PastLists.{onto}
use Rattle.feed_transactions.specs.TransactionTexts.{transaction_text, texts_of}
use Rattle.feed_transactions.specs.Transactions.{Transaction}
use Rattle.feed_checks.specs.LogFormat.{joined}
use Rattle.feed_transactions.specs.Reports.{Report, file_transactions}
use Rattle.feed_checks.proofs.EventLemmas.{joined-append}
use Rattle.feed_transactions.proofs.WritingLemmas.{Appends-then}
use Rattle.feed_replication.specs.Acknowledgements.{acknowledgements}
use Rattle.feed_replication.specs.ResumePositions.{last_position, position_after}
use Rattle.feed_replication.specs.declared.format.PayloadFormat.{PayloadFormat as Format}
use Rattle.feed_replication.specs.Streams.{event_payloads, stream_report, stream_transactions, stream_texts, stream_verdict, program_limit}
use Rattle.feed_replication.specs.declared.follower.Follower.{Follower}
use Rattle.feed_replication.specs.Following.{limit_of, format_of, name_of, asked_position_of, KeepsSettings, Starts, ResumesAfter, RepresentsStream, IsFed, AddsDue, IsWriterFailure, WritesAllNew}
use Rattle.feed_replication.specs.declared.served.Served.{Served}
use Rattle.feed_replication.specs.declared.served.Served.TheVariants.{Fault}
use Rattle.feed_replication.specs.Serving.{Answer, answer_bytes}
use Rattle.feed_replication.specs.SendingSteps.{IsServedBy, ServesBy}
use Rattle.feed_replication.specs.declared.step.Step.{Step}
use Rattle.feed_replication.specs.Headline.{PrintsTheLog}
use Rattle.feed_replication.specs.Runs.{resume_position, step_stream, is_fault_verdict, grown, next_report, run_back, run, step_acknowledgements, acknowledged_back, run_acknowledgements}
use Rattle.feed_replication.proofs.GrowthLemmas.{next-is, run-step-grows, run-grows, run-ends}
use Rattle.feed_replication.proofs.AcknowledgedLemmas.{Acknowledging, step-waits, acknowledged-on, acknowledged-some, acknowledged-rest, all-wait}
use Rattle.feed_replication.specs.RehearsalSteps.{ends_early, verdict_by_acks, HasRun, WritesRest, WritesSomeOfRest, StepResult}
use Rattle.feed_replication.specs.Rehearsing.{Rehearses, IsRunFailure, FollowsTheLog}

Appends-none : (o : Option (List ℕ)) → Appends o o []
Appends-none None = tt
Appends-none (Some x) = sym (append-nil x)

-- ---- the answer

-- an answer that didn't end early is whole
whole-by : (a : List ℕ → Answer) (b : List ℕ) (rest : Option (List ℕ)) (bytes : List ℕ) (v : Served) → ends_early v ≡ false → IsServedBy a 1 b rest bytes v → bytes ≡ answer_bytes (a b)
whole-by a b rest bytes (Fault verdicts.Memory) i h = absurd cc
whole-by a b rest bytes (Fault verdicts.Read) i h = absurd cc
whole-by a b rest bytes (Fault verdicts.Write) i h = absurd cc
whole-by a b rest bytes _ i h = h.0

pub whole-answer : (a : List ℕ → Answer) (b there old new : List ℕ) (rest : Option (List ℕ)) (v : Served) → ends_early v ≡ false → b ≡ there → old ≡ [] → ServesBy a 1 (Some b) rest (Some old) (Some new) v → new ≡ answer_bytes (a there)
whole-answer a b there old new rest v i at none h = h.1 ∙ ap (λ (x : List ℕ). x ++ h.0) none ∙ whole-by a b rest h.0 v i h.2 ∙ ap (λ (x : List ℕ). answer_bytes (a x)) at

-- ---- positions

-- the last position of transactions after others, given a default for no transactions
pub asked-append : (a b : List Transaction) (q : ℕ) → unwrap_or (last_position (a ++ b)) q ≡ unwrap_or (last_position b) (unwrap_or (last_position a) q)
asked-append [] b q = refl
asked-append (t ∷ a) b q = following (last_position (a ++ b)) (last_position a) (last_position b) (λ p. asked-append a b p)
  where
    following : (ab x y : Option ℕ) → ((p : ℕ) → unwrap_or ab p ≡ unwrap_or y (unwrap_or x p))
        → unwrap_or (elim ab [ None ↦ Some t.position | Some p ↦ Some p ]) q ≡ unwrap_or y (unwrap_or (elim x [ None ↦ Some t.position | Some p ↦ Some p ]) q)
    following None None y h = h t.position
    following None (Some x) y h = h t.position
    following (Some ab) None y h = h t.position
    following (Some ab) (Some x) y h = h t.position

-- ---- a step

nothing-shown : (r : Rules) (format : Format) (limit : ℕ) → stream_transactions r format limit [] ≡ []
unfolding stream_transactions packets_in event_payloads shown_after up_to_fault
nothing-shown r format limit = refl

-- what a step's follower did
pub record Steps {F : Type 0} (r : Rules) (format : Format) (name : List ℕ) (b : List ℕ) (before : Report) (step : Step) (fed done : Follower F) (piece : List ℕ) (answered : Option Verdict) (v : Verdict) : Type 0 where
  pub piece_is : piece ≡ step_stream r format b before step
  pub limit_is : limit_of done ≡ program_limit
  pub asked_is : asked_position_of done ≡ resume_position before
  pub name_is : name_of done ≡ name
  pub format_is : format_of done ≡ format
  pub printed : ResumesAfter r format fed piece → ResumesAfter r format done piece
  pub answer_is : IfSome answered (λ w. v ≡ w)
  pub verdict_is : RepresentsStream r format fed piece → v ≡ stream_verdict r format program_limit piece

-- the first elements, at most all
pub prefix-is : {A : Type 0} (n : ℕ) (l : List A) (m : ℕ) → m ≡ min n (length l) → take m l ≡ take n l
prefix-is n l m e = ap (λ (i : ℕ). take i l) e ∙ take_min n l

-- the result of `finish`, given the follower's verdict
pub answer-of : {T : Type 0} (v : Verdict) (old new : T) (o p : Option Verdict) → o ≡ p → IfSome o (λ w. (v ≡ w) × (new ≡ old)) → IfSome p (λ w. v ≡ w)
answer-of v old new o None e h = tt
answer-of v old new o (Some w) e h = (subst (λ (x : Option Verdict). IfSome x (λ y. (v ≡ y) × (new ≡ old))) e h).0

-- the report after the step
abbrev following : Rules → Format → List ℕ → Report → Step → Report
following r format b before step = grown before (stream_report r format program_limit (step_stream r format b before step))

now-texts : {F : Type 0} {r : Rules} {format : Format} {name : List ℕ} {b : List ℕ} {before : Report} {step : Step} {fed done : Follower F} {piece : List ℕ} {answered : Option Verdict} {v : Verdict} → Steps r format name b before step fed done piece answered v
    → (rest : List (List ℕ)) → stream_texts r format program_limit piece ≡ rest → texts_of (following r format b before step).transactions ≡ texts_of before.transactions ++ rest
now-texts {r = r} {format = format} {name = name} {b = b} {before = before} {step = step} h rest e =
    map-append transaction_text before.transactions (stream_transactions r format program_limit (step_stream r format b before step))
    ∙ ap (λ (x : List ℕ). texts_of before.transactions ++ stream_texts r format program_limit x) (sym h.piece_is)
    ∙ ap (λ (x : List (List ℕ)). texts_of before.transactions ++ x) e

no-texts : (r : Rules) (format : Format) (more : List (List ℕ)) → stream_texts r format program_limit [] ++ more ≡ more
no-texts r format more = ap (λ (x : List Transaction). texts_of x ++ more) (nothing-shown r format program_limit)

has-run : {F : Type 0} {r : Rules} {format : Format} {name : List ℕ} {b : List ℕ} {before : Report} {step : Step} {fed done : Follower F} {piece : List ℕ} {answered : Option Verdict} {v : Verdict} → Steps r format name b before step fed done piece answered v
    → ResumesAfter r format fed piece → HasRun r format name done (following r format b before step)
has-run {r = r} {format = format} {name = name} {b = b} {before = before} {step = step} {done = done} {piece = piece} h p = record {
  stream = piece;
  printed = h.printed p;
  asks = ap (λ (n : ℕ). position_after r format n piece (asked_position_of done)) h.limit_is
      ∙ ap (λ (q : ℕ). position_after r format program_limit piece q) h.asked_is
      ∙ ap (λ (x : List ℕ). unwrap_or (last_position (stream_transactions r format program_limit x)) (resume_position before)) h.piece_is
      ∙ sym (asked-append before.transactions (stream_transactions r format program_limit (step_stream r format b before step)) 4);
  limit_is = h.limit_is;
  name_is = h.name_is;
  format_is = h.format_is;
}

writes-all : {F : Type 0} {r : Rules} {format : Format} {name : List ℕ} {b : List ℕ} {before : Report} {step : Step} {fed done : Follower F} {piece : List ℕ} {answered : Option Verdict} {v : Verdict} → Steps r format name b before step fed done piece answered v
    → (old new : Option (List ℕ)) → WritesAllNew (stream_texts r format program_limit []) (stream_texts r format program_limit piece) old new → WritesRest (texts_of before.transactions) (texts_of (following r format b before step).transactions) old new
writes-all {r = r} {format = format} {name = name} h old new w = record { rest = w.rest; is_all = now-texts h w.rest (w.is_all ∙ no-texts r format w.rest); written = w.written }

-- by the result of feeding, which is then the verdict
takes-fault : {F : Type 0} (r : Rules) (format : Format) (name : List ℕ) (b : List ℕ) (before : Report) (step : Step) (fed done : Follower F) (piece : List ℕ) (old new : Option (List ℕ)) (v : Verdict) → Steps r format name b before step fed done piece (Some v) v
    → IsFed r format program_limit [] piece fed old new (Some v) → StepResult r format name done before (following r format b before step) old new v
takes-fault r format name b before step fed done piece old new verdicts.Memory h w = record {
  some = w.some;
  more = w.more;
  is_all = now-texts h (w.some ++ w.more) (w.is_all ∙ ap (λ (x : List (List ℕ)). x ++ w.more) (no-texts r format w.some)) ∙ sym (append_assoc (texts_of before.transactions) w.some w.more);
  written = w.written;
}
takes-fault r format name b before step fed done piece old new verdicts.Write h w = record {
  text = w.text;
  more = w.more;
  is_all = ap (λ (x : List (List ℕ)). joined x) (now-texts h (stream_texts r format program_limit piece) refl)
      ∙ joined-append (texts_of before.transactions) (stream_texts r format program_limit piece)
      ∙ ap (λ (x : List ℕ). joined (texts_of before.transactions) ++ x) (w.prefix ∙ ap (λ (x : List Transaction). joined (texts_of x) ++ (w.text ++ w.more)) (nothing-shown r format program_limit));
  written = w.written;
}
takes-fault r format name b before step fed done piece old new v h w =
    (writes-all h old new w.0, sym w.1 ∙ ap (λ (x : List ℕ). stream_verdict r format program_limit x) h.piece_is, has-run h w.2.0)

takes-by : {F : Type 0} (r : Rules) (format : Format) (name : List ℕ) (b : List ℕ) (before : Report) (step : Step) (fed done : Follower F) (piece : List ℕ) (old new : Option (List ℕ)) (o : Option Verdict) (v : Verdict) → Steps r format name b before step fed done piece o v
    → IsFed r format program_limit [] piece fed old new o → StepResult r format name done before (following r format b before step) old new v
takes-by r format name b before step fed done piece old new None v h w =
    let e : v ≡ verdicts.Closed = h.verdict_is w.2 ∙ w.1 in
    subst (λ (x : Verdict). StepResult r format name done before (following r format b before step) old new x) (sym e)
    (writes-all h old new w.0, sym w.1 ∙ ap (λ (x : List ℕ). stream_verdict r format program_limit x) h.piece_is, has-run h w.2.0)
takes-by r format name b before step fed done piece old new (Some f) v h w =
    subst (λ (x : Verdict). StepResult r format name done before (following r format b before step) old new x) (sym h.answer_is)
    (takes-fault r format name b before step fed done piece old new f (subst (λ (x : Verdict). Steps r format name b before step fed done piece (Some f) x) h.answer_is h) w)

pub takes : {F : Type 0} (r : Rules) (format : Format) (name : List ℕ) (b : List ℕ) (before : Report) (step : Step) (asked fed done : Follower F) (piece : List ℕ) (old new : Option (List ℕ)) (o : Option Verdict) (v : Verdict) → is_fault_verdict before.verdict ≡ false
    → limit_of asked ≡ program_limit → Steps r format name b before step fed done piece o v → IsFed r format (limit_of asked) [] piece fed old new o → StepResult r format name done before (next_report r format b before step) old new v
takes r format name b before step asked fed done piece old new o v i n h w =
    subst (λ (x : Report). StepResult r format name done before x old new v) (sym (next-is r format b before step i))
    (takes-by r format name b before step fed done piece old new o v h (subst (λ (m : ℕ). IsFed r format m [] piece fed old new o) n w))

-- and what it added to the acknowledgements that are due
pub acknowledges : {F : Type 0} (r : Rules) (format : Format) (name : List ℕ) (b : List ℕ) (before : Report) (step : Step) (asked fed done : Follower F) (piece : List ℕ) (old new : Option (List ℕ)) (waiting waits : List ℕ) (o : Option Verdict) (v : Verdict) → is_fault_verdict before.verdict ≡ false
    → limit_of asked ≡ program_limit → name_of asked ≡ name → Steps r format name b before step fed done piece o v → IsFed r format (limit_of asked) [] piece fed old new o
    → AddsDue (acknowledgements r format (limit_of asked) (name_of asked) []) (acknowledgements r format (limit_of asked) (name_of asked) piece) waiting waits o → AddsDue [] (step_acknowledgements r format name b before step) waiting waits (Some v)
acknowledges r format name b before step asked fed done piece old new waiting waits o v i n m h w a =
    let own : IsFed r format program_limit [] piece fed old new o = subst (λ (k : ℕ). IsFed r format k [] piece fed old new o) n w in
    step-waits r format name b before step (limit_of asked) (name_of asked) piece waiting waits o v i n m h.piece_is
    (λ none. let now = subst (λ (x : Option Verdict). IsFed r format program_limit [] piece fed old new x) none own in h.verdict_is now.2 ∙ now.1)
    (λ x is. subst (λ (y : Option Verdict). IfSome y (λ z. v ≡ z)) is h.answer_is) a

-- ---- which device failed

same-blame : (v : Verdict) (failed : Bool) → IsWriterFailure (Some v) failed → IsRunFailure v failed
same-blame verdicts.Read failed h = h
same-blame verdicts.Write failed h = h
same-blame _ failed h = tt

pub blamed : (o : Option Verdict) (v : Verdict) (failed : Bool) → (o ≡ None → v ≡ verdicts.Closed) → IfSome o (λ w. v ≡ w) → IsWriterFailure o failed → IsRunFailure v failed
blamed None v failed closed h b = subst (λ (x : Verdict). IsRunFailure x failed) (sym (closed refl)) tt
blamed (Some f) v failed closed h b = subst (λ (x : Verdict). IsRunFailure x failed) (sym h) (same-blame f failed b)

-- out of memory: nothing was written
pub takes-nothing : {F : Type 0} (r : Rules) (format : Format) (name : List ℕ) (b : List ℕ) (f : Follower F) (before : Report) (step : Step) (old : Option (List ℕ)) → StepResult r format name f before (next_report r format b before step) old old verdicts.Memory
takes-nothing r format name b f before step old =
    let k = run-step-grows r format b before step in
    record { some = []; more = texts_of k.0; is_all = ap (λ (x : List Transaction). texts_of x) k.1 ∙ map-append transaction_text before.transactions k.0 ∙ ap (λ (x : List (List ℕ)). x ++ texts_of k.0) (sym (append-nil (texts_of before.transactions))); written = Appends-none old }

-- what a step wrote, whether its acknowledgements were kept or not
some-written : (before all : List (List ℕ)) (old new : Option (List ℕ)) → WritesRest before all old new → WritesSomeOfRest before all old new
some-written before all old new w = record { some = w.rest; more = []; is_all = w.is_all ∙ sym (append-nil (before ++ w.rest)); written = w.written }

pub takes-kept : {F : Type 0} (r : Rules) (format : Format) (name : List ℕ) (f g : Follower F) (before after : Report) (old new : Option (List ℕ)) (v : Verdict) (kept : Bool) → (HasRun r format name f after → HasRun r format name g after)
    → StepResult r format name f before after old new v → StepResult r format name g before after old new (verdict_by_acks v kept)
takes-kept r format name f g before after old new verdicts.Memory true runs h = h
takes-kept r format name f g before after old new verdicts.Memory false runs h = h
takes-kept r format name f g before after old new verdicts.Write kept runs h = h
takes-kept r format name f g before after old new v true runs h = (h.0, h.1, runs h.2)
takes-kept r format name f g before after old new v false runs h = some-written (texts_of before.transactions) (texts_of after.transactions) old new h.0

-- the follower may have returned its acknowledgements
pub still-run : {F : Type 0} (r : Rules) (format : Format) (name : List ℕ) (f g : Follower F) (after : Report) → KeepsSettings f g → asked_position_of g ≡ asked_position_of f
    → ((s : List ℕ) → ResumesAfter r (format_of f) f s → ResumesAfter r (format_of f) g s) → HasRun r format name f after → HasRun r format name g after
still-run r format name f g after settings asked resumes h = record {
  stream = h.stream;
  printed = subst (λ (x : Format). ResumesAfter r x g h.stream) h.format_is (resumes h.stream (subst (λ (x : Format). ResumesAfter r x f h.stream) (sym h.format_is) h.printed));
  asks = ap (λ (n : ℕ). position_after r format n h.stream (asked_position_of g)) settings.limit ∙ ap (λ (n : ℕ). position_after r format (limit_of f) h.stream n) asked ∙ h.asks;
  limit_is = settings.limit ∙ h.limit_is;
  name_is = settings.name ∙ h.name_is;
  format_is = settings.format ∙ h.format_is;
}

pub blamed-kept : (v : Verdict) (kept failed : Bool) → IsRunFailure v failed → IsRunFailure (verdict_by_acks v kept) failed
blamed-kept verdicts.Write kept failed h = h
blamed-kept v true failed h = h
blamed-kept v false failed h = tt

-- ---- from step to step

-- Some steps were taken, `left` remain, the texts of the run so far were written, and its acknowledgements were appended.
pub record IsUnderway {F : Type 0} (r : Rules) (format : Format) (name : List ℕ) (b : List ℕ) (steps left : List Step) (f : Follower F) (old now : Option (List ℕ)) (v : Verdict) (first acks : List ℕ) : Type 0 where
  pub past : List Step
  pub steps_are : onto past left ≡ onto [] steps
  pub ready : HasRun r format name f (run_back r format b past)
  pub written : Appends old now (joined (texts_of (run_back r format b past).transactions))
  pub verdict_is : v ≡ (run_back r format b past).verdict
  pub goes_on : is_fault_verdict v ≡ false
  pub acks_are : acks ≡ first ++ joined (acknowledged_back r format name b past)

pub begun : {F : Type 0} (r : Rules) (format : Format) (name : List ℕ) (b : List ℕ) (steps : List Step) (f : Follower F) (question : List ℕ) (checksum : F) (old : Option (List ℕ)) (acks : List ℕ) → Starts format 4 1 name program_limit checksum f question → IsUnderway r format name b steps steps f old old verdicts.Closed acks acks
unfolding run_back acknowledged_back
begun r format name b steps f question checksum old acks starts = record {
  past = [];
  steps_are = refl;
  ready = record { stream = []; printed = (starts.after r).0; asks = ap (λ (x : List Transaction). unwrap_or (last_position x) (asked_position_of f)) (nothing-shown r format (limit_of f)) ∙ starts.asked_position; limit_is = starts.limit_is; name_is = starts.name_is; format_is = starts.format_is };
  written = Appends-none old;
  verdict_is = refl;
  goes_on = refl;
  acks_are = sym (append-nil acks);
}

-- a verdict that is no fault
taken-by : {F : Type 0} (r : Rules) (format : Format) (name : List ℕ) (f : Follower F) (before after : Report) (old new : Option (List ℕ)) (v : Verdict) → is_fault_verdict v ≡ false → StepResult r format name f before after old new v
    → WritesRest (texts_of before.transactions) (texts_of after.transactions) old new × (v ≡ after.verdict) × HasRun r format name f after
taken-by r format name f before after old new verdicts.Memory i h = absurd cc
taken-by r format name f before after old new verdicts.Write i h = absurd cc
taken-by r format name f before after old new _ i h = h

-- the result of a call that takes this step
abbrev pub StepCallResult : {F : Type 0} → Rules → Format → List ℕ → List ℕ → Step → Follower F → Follower F → Option (List ℕ) → Option (List ℕ) → Verdict → Type 0
StepCallResult r format name b step f g mid new v = (before : Report) → HasRun r format name f before → is_fault_verdict before.verdict ≡ false → StepResult r format name g before (next_report r format b before step) mid new v

-- and what it adds to the acknowledgements
abbrev pub AcknowledgesStep : {F : Type 0} → Rules → Format → List ℕ → List ℕ → Step → Follower F → List ℕ → List ℕ → Verdict → Type 0
AcknowledgesStep r format name b step f old new v = (before : Report) → HasRun r format name f before → is_fault_verdict before.verdict ≡ false → Acknowledging r format name b before step old new v

-- the step was taken after those before it
step-taken : {F : Type 0} (r : Rules) (format : Format) (name : List ℕ) (b : List ℕ) (steps left : List Step) (step : Step) (f g : Follower F) (old mid new : Option (List ℕ)) (u v : Verdict) (first acks : List ℕ) → (h : IsUnderway r format name b steps left f old mid u first acks) → StepCallResult r format name b step f g mid new v
    → StepResult r format name g (run_back r format b h.past) (next_report r format b (run_back r format b h.past) step) mid new v
step-taken r format name b steps left step f g old mid new u v first acks h t = t (run_back r format b h.past) h.ready (ap is_fault_verdict (sym h.verdict_is) ∙ h.goes_on)

pub gone-on : {F : Type 0} (r : Rules) (format : Format) (name : List ℕ) (b : List ℕ) (steps all left : List Step) (step : Step) (f g : Follower F) (old mid new : Option (List ℕ)) (u v : Verdict) (first kept acks : List ℕ) → all ≡ step ∷ left → (h : IsUnderway r format name b steps all f old mid u first kept) → is_fault_verdict v ≡ false
    → StepCallResult r format name b step f g mid new v → AcknowledgesStep r format name b step f kept acks v → IsUnderway r format name b steps left g old new v first acks
unfolding run_back
gone-on r format name b steps all left step f g old mid new u v first kept acks e h i t a =
    let k = taken-by r format name g (run_back r format b h.past) (next_report r format b (run_back r format b h.past) step) mid new v i (step-taken r format name b steps all step f g old mid new u v first kept h t) in
    record {
      past = step ∷ h.past;
      steps_are = sym (ap (onto h.past) e) ∙ h.steps_are;
      ready = k.2;
      written = subst (Appends old new) (sym (ap joined k.0.is_all ∙ joined-append (texts_of (run_back r format b h.past).transactions) k.0.rest))
          (Appends-then old mid new (joined (texts_of (run_back r format b h.past).transactions)) (joined k.0.rest) h.written k.0.written);
      verdict_is = k.1;
      goes_on = i;
      acks_are = acknowledged-on r format name b h.past step first kept acks v i h.acks_are (a (run_back r format b h.past) h.ready (ap is_fault_verdict (sym h.verdict_is) ∙ h.goes_on));
    }

regrouped : (a b c d : List ℕ) → (a ++ b) ++ (c ++ d) ≡ (a ++ (b ++ c)) ++ d
regrouped a b c d = simp append_assoc

-- a verdict that ends the run, given its transactions so far and all of them
ended-by : {F : Type 0} (r : Rules) (format : Format) (name : List ℕ) (f : Follower F) (before after all : Report) (more : List Transaction) (old mid new : Option (List ℕ)) (v : Verdict) → all.transactions ≡ after.transactions ++ more → (is_fault_verdict after.verdict ≡ true → all ≡ after) → is_fault_verdict v ≡ true
    → Appends old mid (joined (texts_of before.transactions)) → StepResult r format name f before after mid new v → Rehearses all old new v
ended-by r format name f before after all more old mid new verdicts.Memory e stays i w t =
    let past : List (List ℕ) = texts_of before.transactions in
    let whole : texts_of all.transactions ≡ (past ++ t.some) ++ (t.more ++ texts_of more) =
    ap (λ (x : List Transaction). texts_of x) e ∙ map-append transaction_text after.transactions more ∙ ap (λ (x : List (List ℕ)). x ++ texts_of more) t.is_all ∙ append_assoc (past ++ t.some) t.more (texts_of more) in
    let first : take (length (past ++ t.some)) (texts_of all.transactions) ≡ past ++ t.some =
    ap (take (length (past ++ t.some))) whole ∙ take-append_seam (past ++ t.some) (t.more ++ texts_of more) in
    (length (past ++ t.some), subst (Appends old new) (sym (ap joined (sym (take-map transaction_text (length (past ++ t.some)) all.transactions) ∙ first) ∙ joined-append past t.some)) (Appends-then old mid new (joined past) (joined t.some) w t.written))
ended-by r format name f before after all more old mid new verdicts.Write e stays i w t =
    let past : List ℕ = joined (texts_of before.transactions) in
    let whole : joined (texts_of all.transactions) ≡ (past ++ (t.text ++ t.more)) ++ joined (texts_of more) =
    ap (λ (x : List Transaction). joined (texts_of x)) e ∙ ap joined (map-append transaction_text after.transactions more) ∙ joined-append (texts_of after.transactions) (texts_of more) ∙ ap (λ (x : List ℕ). x ++ joined (texts_of more)) t.is_all in
    (past ++ t.text, t.more ++ joined (texts_of more), regrouped past t.text t.more (joined (texts_of more)) ∙ sym whole, Appends-then old mid new past t.text w t.written)
ended-by r format name f before after all more old mid new v e stays i w t =
    let same : all ≡ after = stays (ap is_fault_verdict (sym t.1) ∙ i) in (
      subst (λ (x : Report). Appends old new (joined (texts_of x.transactions))) (sym same)
          (subst (Appends old new) (sym (ap joined t.0.is_all ∙ joined-append (texts_of before.transactions) t.0.rest)) (Appends-then old mid new (joined (texts_of before.transactions)) (joined t.0.rest) w t.0.written)),
      t.1 ∙ ap (λ (x : Report). x.verdict) (sym same),
    )

pub gone-wrong : {F : Type 0} (r : Rules) (format : Format) (name : List ℕ) (b : List ℕ) (steps all left : List Step) (step : Step) (f g : Follower F) (old mid new : Option (List ℕ)) (u v : Verdict) (first kept : List ℕ) → all ≡ step ∷ left → IsUnderway r format name b steps all f old mid u first kept → is_fault_verdict v ≡ true
    → StepCallResult r format name b step f g mid new v → Rehearses (run r format b steps) old new v
unfolding run_back
gone-wrong r format name b steps all left step f g old mid new u v first kept e h i t =
    let k = run-grows r format b (step ∷ h.past) left in
    let same : run r format b steps ≡ run_back r format b (onto (step ∷ h.past) left) = ap (run_back r format b) (sym h.steps_are ∙ ap (onto h.past) e) in
    ended-by r format name g (run_back r format b h.past) (run_back r format b (step ∷ h.past)) (run r format b steps) k.0 old mid new v
    (ap (λ (x : Report). x.transactions) same ∙ k.1) (λ over. same ∙ run-ends r format b (step ∷ h.past) left over) i h.written (step-taken r format name b steps all step f g old mid new u v first kept h t)

-- its acknowledgements, if this verdict ended the step
ended-with : {F : Type 0} (r : Rules) (format : Format) (name b : List ℕ) (f : Follower F) (past left : List Step) (step : Step) (mid new : Option (List ℕ)) (v : Verdict) (first kept acks : List ℕ) → is_fault_verdict v ≡ true → kept ≡ first ++ joined (acknowledged_back r format name b past)
    → StepResult r format name f (run_back r format b past) (next_report r format b (run_back r format b past) step) mid new v → Acknowledging r format name b (run_back r format b past) step kept acks v → AddsDue [] (acknowledged_back r format name b (onto (step ∷ past) left)) first acks (Some v)
unfolding run_back
ended-with r format name b f past left step mid new verdicts.Memory first kept acks i m t h = acknowledged-some r format name b past left step first kept acks m h
ended-with r format name b f past left step mid new verdicts.Write first kept acks i m t h = acknowledged-some r format name b past left step first kept acks m h
ended-with r format name b f past left step mid new v first kept acks i m t h = acknowledged-rest r format name b past left step first kept acks m (ap is_fault_verdict (sym t.1) ∙ i) h

pub acknowledged-wrong : {F : Type 0} (r : Rules) (format : Format) (name b : List ℕ) (steps all left : List Step) (step : Step) (f g : Follower F) (old mid new : Option (List ℕ)) (u v : Verdict) (first kept acks : List ℕ) → all ≡ step ∷ left → IsUnderway r format name b steps all f old mid u first kept → is_fault_verdict v ≡ true
    → StepCallResult r format name b step f g mid new v → AcknowledgesStep r format name b step f kept acks v → AddsDue [] (run_acknowledgements r format name b steps) first acks (Some v)
acknowledged-wrong r format name b steps all left step f g old mid new u v first kept acks e h i t a =
    subst (λ (l : List Step). AddsDue [] (acknowledged_back r format name b l) first acks (Some v)) (sym (ap (onto h.past) e) ∙ h.steps_are)
    (ended-with r format name b g h.past left step mid new v first kept acks i h.acks_are (step-taken r format name b steps all step f g old mid new u v first kept h t) (a (run_back r format b h.past) h.ready (ap is_fault_verdict (sym h.verdict_is) ∙ h.goes_on)))

all-written : (all : Report) (old new : Option (List ℕ)) (v : Verdict) → is_fault_verdict v ≡ false → Appends old new (joined (texts_of all.transactions)) → v ≡ all.verdict → Rehearses all old new v
all-written all old new verdicts.Memory i w e = absurd cc
all-written all old new verdicts.Write i w e = absurd cc
all-written all old new _ i w e = (w, e)

pub all-taken : {F : Type 0} (r : Rules) (format : Format) (name : List ℕ) (b : List ℕ) (steps left : List Step) (f : Follower F) (old new : Option (List ℕ)) (v : Verdict) (first acks : List ℕ) → left ≡ [] → IsUnderway r format name b steps left f old new v first acks → Rehearses (run r format b steps) old new v
all-taken r format name b steps left f old new v first acks none h =
    let e : run_back r format b h.past ≡ run r format b steps = ap (run_back r format b) (sym (ap (onto h.past) none) ∙ h.steps_are) in
    all-written (run r format b steps) old new v h.goes_on (subst (λ (x : Report). Appends old new (joined (texts_of x.transactions))) e h.written) (h.verdict_is ∙ ap (λ (x : Report). x.verdict) e)

pub acknowledged-all : {F : Type 0} (r : Rules) (format : Format) (name b : List ℕ) (steps left : List Step) (f : Follower F) (old new : Option (List ℕ)) (v : Verdict) (first acks : List ℕ) → left ≡ [] → IsUnderway r format name b steps left f old new v first acks
    → AddsDue [] (run_acknowledgements r format name b steps) first acks (Some v)
acknowledged-all r format name b steps left f old new v first acks none h =
    subst (λ (l : List Step). AddsDue [] (acknowledged_back r format name b l) first acks (Some v)) (sym (ap (onto h.past) none) ∙ h.steps_are) (all-wait (acknowledged_back r format name b h.past) first acks v h.goes_on h.acks_are)

-- a verdict that is no fault is no failure of a device
pub blameless : (v : Verdict) (failed : Bool) → is_fault_verdict v ≡ false → IsRunFailure v failed
blameless verdicts.Read failed i = absurd cc
blameless verdicts.Write failed i = absurd cc
blameless _ failed i = tt

-- ---- the transactions, in order, each once

-- the first elements of a list that another begins with are the first of that one
first-of : (ts all more : List Transaction) (j : ℕ) → all ≡ ts ++ more → texts_of (take j ts) ≡ texts_of (take (length (take j ts)) all)
first-of ts all more j e =
    let split : all ≡ take j ts ++ (drop j ts ++ more) = e ∙ ap (λ (x : List Transaction). x ++ more) (sym (take-append-drop j ts)) ∙ append_assoc (take j ts) (drop j ts) more in
    ap (λ (x : List Transaction). texts_of x) (sym (ap (take (length (take j ts))) split ∙ take-append_seam (take j ts) (drop j ts ++ more)))

pub follows : (r : Rules) (format : Format) (b : List ℕ) (steps : List Step) (old new : Option (List ℕ)) (v : Verdict) → PrintsTheLog r format b steps (run r format b steps).transactions → Rehearses (run r format b steps) old new v → FollowsTheLog r format b steps old new v
follows r format b steps old new v p h = by v h
  where
    ts : List Transaction
    ts = file_transactions r b

    rest : List Transaction
    rest = drop p.each_once.0 ts

    split : ts ≡ (run r format b steps).transactions ++ rest
    split = sym (take-append-drop p.each_once.0 ts) ∙ ap (λ (x : List Transaction). x ++ rest) (sym p.each_once.1)

    text : joined (texts_of ts) ≡ joined (texts_of (run r format b steps).transactions) ++ joined (texts_of rest)
    text = ap (λ (x : List Transaction). joined (texts_of x)) split ∙ ap joined (map-append transaction_text (run r format b steps).transactions rest) ∙ joined-append (texts_of (run r format b steps).transactions) (texts_of rest)

    by : (v : Verdict) → Rehearses (run r format b steps) old new v → FollowsTheLog r format b steps old new v
    by verdicts.Memory h = (length (take h.0 (run r format b steps).transactions), subst (Appends old new) (ap joined (first-of (run r format b steps).transactions ts rest h.0 split)) h.1)
    by verdicts.Write h = (h.0, h.1 ++ joined (texts_of rest), sym (append_assoc h.0 h.1 (joined (texts_of rest))) ∙ ap (λ (x : List ℕ). x ++ joined (texts_of rest)) h.2 ∙ sym text, h.3)
    by _ h = ((run r format b steps).transactions, p, h.0)
