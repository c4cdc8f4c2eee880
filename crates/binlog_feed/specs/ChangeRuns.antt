-- The third clause of the headline over committed transactions: what is applied of a growing log whose answers break off anywhere, if the follower asks again from the last transaction that was passed. `Runs` and `Headline` of feed_replication have the steps, the answers of a run as far as they arrive, and the conditions.
use Rattle.std.specs.Prelude.{◌≡◌, ℕ, ◌≤◌, true, false, List, [], ◌∷◌, ◌++◌, length, take}
use Rattle.feed_checks.specs.declared.verdict.Verdict.{Verdict}
use Rattle.feed_checks.specs.declared.verdict.Verdict.TheVariants as verdicts
use Rattle.feed_checks.specs.PastLists.{onto}
use Rattle.feed_transactions.specs.Changes.{Committed}
use Rattle.feed_transactions.specs.Reports.{Report}
use Rattle.feed_transactions.specs.Rules.{rules}
use Rattle.feed_change_log.specs.ChangeLaws.{file_committed}
use Rattle.feed_replication.specs.declared.format.PayloadFormat.{PayloadFormat as Format}
use Rattle.feed_replication.specs.declared.step.Step.{Step}
use Rattle.feed_replication.specs.Headline.{IsComplete}
use Rattle.feed_replication.specs.Runs.{step_stream, is_fault_verdict, run_back, run}
use Rattle.feed_replication.specs.Streams.{program_limit}
use Rattle.binlog_feed.specs.Appliers.{HasApplied, Applies}
use Rattle.binlog_feed.specs.StreamCommits.{stream_committed}

-- the transactions that the answer in a step commits, as far as it arrives, under a checksum function
unfoldable pub step_committed : (List ℕ → ℕ) → Format → List ℕ → Report → Step → List Committed
step_committed f format b before step = elim (is_fault_verdict before.verdict) [
  | true ↦ []
  | false ↦ stream_committed f format program_limit (step_stream (rules f) format b before step)
]

-- the transactions that the answers of these steps commit, which are given the newest first
unfoldable pub committed_back : (List ℕ → ℕ) → Format → List ℕ → List Step → List Committed
committed_back f format b [] = []
committed_back f format b (step ∷ earlier) = committed_back f format b earlier ++ step_committed f format b (run_back (rules f) format b earlier) step

-- the transactions that the answers of a run over a binary log commit
abbrev pub run_committed : (List ℕ → ℕ) → Format → List ℕ → List Step → List Committed
run_committed f format b steps = committed_back f format b (onto [] steps)

-- the transactions are the log's first few, in order, each once; after a complete answer, at least all that the log showed at that step
pub record IsFromTheLog (f : List ℕ → ℕ) (format : Format) (b : List ℕ) (steps : List Step) (ts : List Committed) : Type 0 where
  pub each_once : (j : ℕ) × (ts ≡ take j (file_committed f b))
  pub all : (earlier : List Step) (step : Step) (later : List Step) → steps ≡ earlier ++ step ∷ later → IsComplete (rules f) format b earlier step
      → length (file_committed f (take step.size b)) ≤ length ts

-- ---- what a rehearsal with an applier guarantees

-- what was applied of a run's transactions: all, and the verdict is that of the run; out of memory the first few
abbrev pub AppliesRun : {A : Type 0} → HasApplied A → (List ℕ → ℕ) → Format → List ℕ → List Step → A → A → Verdict → Type 0
AppliesRun has_applied f format b steps old new verdicts.Memory = (j : ℕ) × Applies has_applied old new (take j (run_committed f format b steps))
AppliesRun has_applied f format b steps old new v = Applies has_applied old new (run_committed f format b steps) × (v ≡ (run (rules f) format b steps).verdict)

-- what was applied of the log's transactions: those of `IsFromTheLog`; out of memory the first few
abbrev pub AppliesTheLog : {A : Type 0} → HasApplied A → (List ℕ → ℕ) → Format → List ℕ → List Step → A → A → Verdict → Type 0
AppliesTheLog has_applied f format b steps old new verdicts.Memory = (j : ℕ) × Applies has_applied old new (take j (file_committed f b))
AppliesTheLog has_applied f format b steps old new v = (ts : List Committed) × IsFromTheLog f format b steps ts × Applies has_applied old new ts
