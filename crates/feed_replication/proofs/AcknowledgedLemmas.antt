-- The acknowledgements of a run, step by step.
use Rattle.std.proofs.Common.{◌≡◌, ℕ, Bool, true, false, List, [], ◌∷◌, ◌++◌, Option, Some, None, refl, sym, ap, subst, ◌∙◌, append_assoc}
use Rattle.std.proofs.lemmas.List.{append-nil}
use Rattle.wire_packets.specs.Packets.{packets_in}
use Rattle.feed_checks.specs.declared.verdict.Verdict.{Verdict}
use Rattle.feed_checks.specs.declared.verdict.Verdict.TheVariants as verdicts
use Rattle.feed_transactions.specs.Rules.{Rules, up_to_fault}
use Rattle.feed_checks.specs.PastLists.{onto}
use Rattle.feed_checks.specs.LogFormat.{joined}
use Rattle.feed_transactions.specs.Reports.{Report}
use Rattle.feed_checks.proofs.EventLemmas.{joined-append}
use Rattle.feed_replication.specs.Acknowledgements.{acknowledgements}
use Rattle.feed_replication.specs.Following.{AddsAllDue, AddsSomeDue, AddsDue}
use Rattle.feed_replication.specs.declared.format.PayloadFormat.{PayloadFormat as Format}
use Rattle.feed_replication.specs.Streams.{event_payloads, program_limit}
use Rattle.feed_replication.specs.declared.step.Step.{Step}
use Rattle.feed_replication.specs.Runs.{is_fault_verdict, step_stream, run_back, step_acknowledgements, acknowledged_back}
use Rattle.feed_replication.specs.RehearsalSteps.{verdict_by_acks}
use Rattle.feed_replication.proofs.GrowthLemmas.{run-ends}

-- no bytes ask for none
none-asked : (r : Rules) (format : Format) (limit : ℕ) (name : List ℕ) → acknowledgements r format limit name [] ≡ []
unfolding acknowledgements packets_in event_payloads up_to_fault
none-asked r format limit name = refl

-- ---- a step

abbrev or-none : Bool → List (List ℕ) → List (List ℕ)
or-none over acks = elim over [ true ↦ [] | false ↦ acks ]

asked-by : (over : Bool) (acks : List (List ℕ)) → over ≡ false → or-none over acks ≡ acks
asked-by false acks h = refl
asked-by true acks h = absurd cc

over-by : (over : Bool) (acks : List (List ℕ)) → over ≡ true → or-none over acks ≡ []
over-by true acks h = refl
over-by false acks h = absurd cc

-- after a report that isn't over
step-asks : (r : Rules) (format : Format) (name b : List ℕ) (before : Report) (step : Step) → is_fault_verdict before.verdict ≡ false → step_acknowledgements r format name b before step ≡ acknowledgements r format program_limit name (step_stream r format b before step)
unfolding step_acknowledgements
step-asks r format name b before step h = asked-by (is_fault_verdict before.verdict) (acknowledgements r format program_limit name (step_stream r format b before step)) h

step-over : (r : Rules) (format : Format) (name b : List ℕ) (before : Report) (step : Step) → is_fault_verdict before.verdict ≡ true → step_acknowledgements r format name b before step ≡ []
unfolding step_acknowledgements
step-over r format name b before step h = over-by (is_fault_verdict before.verdict) (acknowledgements r format program_limit name (step_stream r format b before step)) h

-- ---- the acknowledgements that are due, given those that the stream asks for

waits-same : (a b all : List (List ℕ)) (old new : List ℕ) (o : Option Verdict) → a ≡ [] → all ≡ b → AddsDue a b old new o → AddsDue [] all old new o
waits-same a b all old new o none same h = subst (λ (x : List (List ℕ)). AddsDue [] x old new o) (sym same) (subst (λ (x : List (List ℕ)). AddsDue x b old new o) none h)

-- the result of feeding is the verdict, or `Closed` if the stream went on
waits-closed : (before all : List (List ℕ)) (old new : List ℕ) (o : Option Verdict) (v : Verdict) → (o ≡ None → v ≡ verdicts.Closed) → ((w : Verdict) → o ≡ Some w → v ≡ w) → AddsDue before all old new o → AddsDue before all old new (Some v)
waits-closed before all old new None v closed is h = subst (λ (x : Verdict). AddsDue before all old new (Some x)) (sym (closed refl)) h
waits-closed before all old new (Some w) v closed is h = subst (λ (x : Verdict). AddsDue before all old new (Some x)) (sym (is w refl)) h

-- out of memory adds none
pub waits-none : (all : List (List ℕ)) (waiting : List ℕ) → AddsDue [] all waiting waiting (Some verdicts.Memory)
waits-none all waiting = record { some = []; more = all; is_all = refl; waits = sym (append-nil waiting) }

-- the bytes that a step's follower was fed ask for these acknowledgements
pub step-waits : (r : Rules) (format : Format) (name b : List ℕ) (before : Report) (step : Step) (limit : ℕ) (named piece old new : List ℕ) (o : Option Verdict) (v : Verdict) → is_fault_verdict before.verdict ≡ false → limit ≡ program_limit → named ≡ name → piece ≡ step_stream r format b before step
    → (o ≡ None → v ≡ verdicts.Closed) → ((w : Verdict) → o ≡ Some w → v ≡ w) → AddsDue (acknowledgements r format limit named []) (acknowledgements r format limit named piece) old new o → AddsDue [] (step_acknowledgements r format name b before step) old new (Some v)
step-waits r format name b before step limit named piece old new o v i n m p closed is h =
    let all : step_acknowledgements r format name b before step ≡ acknowledgements r format limit named piece =
    step-asks r format name b before step i ∙ ap (λ (x : List ℕ). acknowledgements r format program_limit name x) (sym p) ∙ ap (λ (k : ℕ). acknowledgements r format k name piece) (sym n) ∙ ap (λ (x : List ℕ). acknowledgements r format limit x piece) (sym m) in
    waits-same (acknowledgements r format limit named []) (acknowledgements r format limit named piece) (step_acknowledgements r format name b before step) old new (Some v) (none-asked r format limit named) all (waits-closed _ _ old new o v closed is h)

-- ---- which of them are kept

-- all that were due are appended, or none if out of memory
pub kept-waits : (all : List (List ℕ)) (waiting old new : List ℕ) (v : Verdict) (kept : Bool) → AddsDue [] all [] waiting (Some v) → (kept ≡ true → new ≡ old ++ waiting) → (kept ≡ false → new ≡ old) → AddsDue [] all old new (Some (verdict_by_acks v kept))
kept-waits all waiting old new verdicts.Memory true h put not = record { some = h.some; more = h.more; is_all = h.is_all; waits = put refl ∙ ap (λ (x : List ℕ). old ++ x) h.waits }
kept-waits all waiting old new verdicts.Memory false h put not = record { some = []; more = all; is_all = refl; waits = not refl ∙ sym (append-nil old) }
kept-waits all waiting old new verdicts.Write true h put not = record { some = h.some; more = h.more; is_all = h.is_all; waits = put refl ∙ ap (λ (x : List ℕ). old ++ x) h.waits }
kept-waits all waiting old new verdicts.Write false h put not = record { some = []; more = all; is_all = refl; waits = not refl ∙ sym (append-nil old) }
kept-waits all waiting old new v true h put not = record { rest = h.rest; is_all = h.is_all; waits = put refl ∙ ap (λ (x : List ℕ). old ++ x) h.waits }
kept-waits all waiting old new v false h put not = record { some = []; more = all; is_all = refl; waits = not refl ∙ sym (append-nil old) }

-- ---- from step to step

-- the acknowledgements of a run grow
acknowledged-grow : (r : Rules) (format : Format) (name b : List ℕ) (past later : List Step) → (more : List (List ℕ)) × (acknowledged_back r format name b (onto past later) ≡ acknowledged_back r format name b past ++ more)
unfolding acknowledged_back
acknowledged-grow r format name b past [] = ([], sym (append-nil _))
acknowledged-grow r format name b past (step ∷ later) =
    let h = acknowledged-grow r format name b (step ∷ past) later in
    let own : List (List ℕ) = step_acknowledgements r format name b (run_back r format b past) step in
    (own ++ h.0, h.1 ∙ append_assoc (acknowledged_back r format name b past) own h.0)

-- a run that is over asks for none
acknowledged-end : (r : Rules) (format : Format) (name b : List ℕ) (past later : List Step) → is_fault_verdict (run_back r format b past).verdict ≡ true → acknowledged_back r format name b (onto past later) ≡ acknowledged_back r format name b past
unfolding acknowledged_back
acknowledged-end r format name b past [] over = refl
acknowledged-end r format name b past (step ∷ later) over =
    acknowledged-end r format name b (step ∷ past) later (ap (λ (x : Report). is_fault_verdict x.verdict) (run-ends r format b past (step ∷ []) over) ∙ over)
    ∙ ap (λ (x : List (List ℕ)). acknowledged_back r format name b past ++ x) (step-over r format name b (run_back r format b past) step over)
    ∙ append-nil (acknowledged_back r format name b past)

-- what a call that takes this step adds
abbrev pub Acknowledging : Rules → Format → List ℕ → List ℕ → Report → Step → List ℕ → List ℕ → Verdict → Type 0
Acknowledging r format name b before step old new v = AddsDue [] (step_acknowledgements r format name b before step) old new (Some v)

-- a verdict that is no fault
all-of : (all : List (List ℕ)) (old new : List ℕ) (v : Verdict) → is_fault_verdict v ≡ false → AddsDue [] all old new (Some v) → new ≡ old ++ joined all
all-of all old new verdicts.Memory i h = absurd cc
all-of all old new verdicts.Write i h = absurd cc
all-of all old new v i h = h.waits ∙ ap (λ (x : List (List ℕ)). old ++ joined x) (sym h.is_all)

pub acknowledged-on : (r : Rules) (format : Format) (name b : List ℕ) (past : List Step) (step : Step) (first mid acks : List ℕ) (v : Verdict) → is_fault_verdict v ≡ false → mid ≡ first ++ joined (acknowledged_back r format name b past) → Acknowledging r format name b (run_back r format b past) step mid acks v
    → acks ≡ first ++ joined (acknowledged_back r format name b (step ∷ past))
unfolding acknowledged_back
acknowledged-on r format name b past step first mid acks v i m h =
    let own : List (List ℕ) = step_acknowledgements r format name b (run_back r format b past) step in
    all-of own mid acks v i h ∙ ap (λ (x : List ℕ). x ++ joined own) m ∙ append_assoc first (joined (acknowledged_back r format name b past)) (joined own) ∙ ap (λ (x : List ℕ). first ++ x) (sym (joined-append (acknowledged_back r format name b past) own))

-- the last step was taken in part
pub acknowledged-some : (r : Rules) (format : Format) (name b : List ℕ) (past later : List Step) (step : Step) (first mid acks : List ℕ) → mid ≡ first ++ joined (acknowledged_back r format name b past) → AddsSomeDue [] (step_acknowledgements r format name b (run_back r format b past) step) mid acks
    → AddsSomeDue [] (acknowledged_back r format name b (onto (step ∷ past) later)) first acks
unfolding acknowledged_back
acknowledged-some r format name b past later step first mid acks m h =
    let k = acknowledged-grow r format name b (step ∷ past) later in
    let before : List (List ℕ) = acknowledged_back r format name b past in
    record {
      some = before ++ h.some;
      more = h.more ++ k.0;
      is_all = k.1 ∙ ap (λ (x : List (List ℕ)). (before ++ x) ++ k.0) h.is_all ∙ ap (λ (x : List (List ℕ)). x ++ k.0) (sym (append_assoc before h.some h.more)) ∙ append_assoc (before ++ h.some) h.more k.0;
      waits = h.waits ∙ ap (λ (x : List ℕ). x ++ joined h.some) m ∙ append_assoc first (joined before) (joined h.some) ∙ ap (λ (x : List ℕ). first ++ x) (sym (joined-append before h.some));
    }

-- the run is over after it
pub acknowledged-rest : (r : Rules) (format : Format) (name b : List ℕ) (past later : List Step) (step : Step) (first mid acks : List ℕ) → mid ≡ first ++ joined (acknowledged_back r format name b past) → is_fault_verdict (run_back r format b (step ∷ past)).verdict ≡ true
    → AddsAllDue [] (step_acknowledgements r format name b (run_back r format b past) step) mid acks → AddsAllDue [] (acknowledged_back r format name b (onto (step ∷ past) later)) first acks
unfolding acknowledged_back
acknowledged-rest r format name b past later step first mid acks m over h =
    let before : List (List ℕ) = acknowledged_back r format name b past in
    record {
      rest = before ++ h.rest;
      is_all = acknowledged-end r format name b (step ∷ past) later over ∙ ap (λ (x : List (List ℕ)). before ++ x) h.is_all;
      waits = h.waits ∙ ap (λ (x : List ℕ). x ++ joined h.rest) m ∙ append_assoc first (joined before) (joined h.rest) ∙ ap (λ (x : List ℕ). first ++ x) (sym (joined-append before h.rest));
    }

-- all steps were taken
pub all-wait : (all : List (List ℕ)) (first acks : List ℕ) (v : Verdict) → is_fault_verdict v ≡ false → acks ≡ first ++ joined all → AddsDue [] all first acks (Some v)
all-wait all first acks verdicts.Memory i h = absurd cc
all-wait all first acks verdicts.Write i h = absurd cc
all-wait all first acks v i h = record { rest = all; is_all = refl; waits = h }
