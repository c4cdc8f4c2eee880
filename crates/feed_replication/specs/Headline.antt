-- The third clause of the headline, over transactions: what a follower prints of a growing log whose answers break off anywhere, if it asks again from its last commit. The first two clauses are `ReportsFile` in the contract of `report`, and `IsFed` in that of `Follower::feed`.
use Rattle.std.specs.Prelude.{◌≡◌, ◌⊎◌, ℕ, ◌+◌, ◌≤◌, true, false, List, [], ◌∷◌, ◌++◌, length, take}
use Rattle.feed_checks.specs.PastLists.{onto}
use Rattle.feed_checks.specs.EventFields.{Event, log_pos_of}
use Rattle.feed_transactions.specs.Rules.{Rules, good}
use Rattle.feed_transactions.specs.Transactions.{Transaction}
use Rattle.feed_checks.specs.LogFormat.{joined, has_magic_number}
use Rattle.feed_transactions.specs.Reports.{file_events, file_transactions}
use Rattle.feed_replication.specs.declared.format.PayloadFormat.{PayloadFormat as Format}
use Rattle.feed_replication.specs.Streams.{program_limit}
use Rattle.feed_replication.specs.Serving.{answer, answer_bytes}
use Rattle.feed_replication.specs.ServerLaws.{IsWithin}
use Rattle.feed_replication.specs.declared.step.Step.{Step}
use Rattle.feed_replication.specs.Runs.{resume_position, is_fault_verdict, run}

-- before the first fault, each event that shows a transaction has the position after it in its header
abbrev pub HasPositions : Rules → List ℕ → Type 0
HasPositions r b =
    (l : List Event) (e : Event) (later : List Event) → good r (file_events b) ≡ l ++ e ∷ later → (r.shows (onto [] l) e ≡ [])
    ⊎ (log_pos_of e ≡ 4 + length (joined l) + length e)

-- the conditions under which a log can be followed through dropped connections: its magic number, the positions in its headers, and the lengths of its payloads
pub record IsFollowable (r : Rules) (format : Format) (b : List ℕ) : Type 0 where
  pub magic : has_magic_number b ≡ true
  pub positions : HasPositions r b
  pub limits : IsWithin program_limit format (file_events b)

-- the answer in this step arrived complete, and no step before it ended with a fault
pub record IsComplete (r : Rules) (format : Format) (b : List ℕ) (earlier : List Step) (step : Step) : Type 0 where
  pub goes_on : is_fault_verdict (run r format b earlier).verdict ≡ false
  pub whole : length (answer_bytes (answer r format program_limit (take step.size b) (resume_position (run r format b earlier)))) ≤ step.count

-- the printed transactions are the log's first few, in order; after a complete answer, at least all that the log showed at that step
pub record PrintsTheLog (r : Rules) (format : Format) (b : List ℕ) (steps : List Step) (printed : List Transaction) : Type 0 where
  pub each_once : (j : ℕ) × (printed ≡ take j (file_transactions r b))
  pub all : (earlier : List Step) (step : Step) (later : List Step) → steps ≡ earlier ++ step ∷ later → IsComplete r format b earlier step
      → length (file_transactions r (take step.size b)) ≤ length printed
