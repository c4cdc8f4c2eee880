-- The report of a run from step to step.
use Rattle.std.proofs.Common.{◌≡◌, Bool, true, false, ℕ, List, [], ◌∷◌, ◌++◌, refl, sym, ap, ◌∙◌, append_assoc}
use Rattle.std.proofs.lemmas.List.{append-nil}
use Rattle.feed_transactions.specs.Rules.{Rules}
use Rattle.feed_checks.specs.PastLists.{onto}
use Rattle.feed_transactions.specs.Transactions.{Transaction}
use Rattle.feed_transactions.specs.Reports.{Report}
use Rattle.feed_replication.specs.declared.format.PayloadFormat.{PayloadFormat as Format}
use Rattle.feed_replication.specs.Streams.{stream_report, program_limit}
use Rattle.feed_replication.specs.declared.step.Step.{Step}
use Rattle.feed_replication.specs.Runs.{is_fault_verdict, grown, step_stream, next_report, run_back}

-- a report that is over stays
abbrev or-next : Bool → Report → Report → Report
or-next over t n = elim over [ true ↦ t | false ↦ n ]

stepped : (over : Bool) (t n : Report) → over ≡ false → or-next over t n ≡ n
stepped false t n h = refl
stepped true t n h = absurd cc

-- a step after a report that isn't over
pub next-is : (r : Rules) (format : Format) (b : List ℕ) (before : Report) (step : Step) → is_fault_verdict before.verdict ≡ false → next_report r format b before step ≡ grown before (stream_report r format program_limit (step_stream r format b before step))
unfolding next_report
next-is r format b before step h = stepped (is_fault_verdict before.verdict) before (grown before (stream_report r format program_limit (step_stream r format b before step))) h

grows-by : (over : Bool) (t s : Report) → (more : List Transaction) × ((or-next over t (grown t s)).transactions ≡ t.transactions ++ more)
grows-by true t s = ([], sym (append-nil _))
grows-by false t s = (s.transactions, refl)

pub run-step-grows : (r : Rules) (format : Format) (b : List ℕ) (before : Report) (step : Step) → (more : List Transaction) × ((next_report r format b before step).transactions ≡ before.transactions ++ more)
unfolding next_report
run-step-grows r format b before step = grows-by (is_fault_verdict before.verdict) before (stream_report r format program_limit (step_stream r format b before step))

-- the transactions of a run grow
pub run-grows : (r : Rules) (format : Format) (b : List ℕ) (past later : List Step) → (more : List Transaction) × ((run_back r format b (onto past later)).transactions ≡ (run_back r format b past).transactions ++ more)
unfolding run_back next_report
run-grows r format b past [] = ([], sym (append-nil _))
run-grows r format b past (step ∷ later) =
    let h = run-grows r format b (step ∷ past) later in
    let k = grows-by (is_fault_verdict (run_back r format b past).verdict) (run_back r format b past) (stream_report r format program_limit (step_stream r format b (run_back r format b past) step)) in
    (k.0 ++ h.0, h.1 ∙ ap (λ (x : List Transaction). x ++ h.0) k.1 ∙ append_assoc _ k.0 h.0)

ends-by : (over : Bool) (t n : Report) → over ≡ true → or-next over t n ≡ t
ends-by true t n h = refl
ends-by false t n h = absurd cc

-- a run that is over is unchanged
pub run-ends : (r : Rules) (format : Format) (b : List ℕ) (past later : List Step) → is_fault_verdict (run_back r format b past).verdict ≡ true → run_back r format b (onto past later) ≡ run_back r format b past
unfolding run_back next_report
run-ends r format b past [] h = refl
run-ends r format b past (step ∷ later) h =
    let e = ends-by (is_fault_verdict (run_back r format b past).verdict) (run_back r format b past) (grown (run_back r format b past) (stream_report r format program_limit (step_stream r format b (run_back r format b past) step))) h in
    run-ends r format b (step ∷ past) later (ap (λ (x : Report). is_fault_verdict x.verdict) e ∙ h) ∙ e
