-- A run of a follower over dropped connections: after each it resumes from the last commit that it printed.
use Rattle.std.specs.Prelude.{ℕ, Bool, true, false, List, [], ◌∷◌, ◌++◌, take, unwrap_or}
use Rattle.feed_checks.specs.declared.verdict.Verdict.{Verdict}
use Rattle.feed_checks.specs.declared.verdict.Verdict.TheVariants as verdicts
use Rattle.feed_checks.specs.PastLists.{onto}
use Rattle.feed_transactions.specs.Rules.{Rules}
use Rattle.feed_transactions.specs.Reports.{Report}
use Rattle.feed_replication.specs.ResumePositions.{last_position}
use Rattle.feed_replication.specs.declared.format.PayloadFormat.{PayloadFormat as Format}
use Rattle.feed_replication.specs.Streams.{stream_report, program_limit}
use Rattle.feed_replication.specs.Acknowledgements.{acknowledgements}
use Rattle.feed_replication.specs.Serving.{answer, answer_bytes}
use Rattle.feed_replication.specs.declared.step.Step.{Step}

-- the position to resume from: that after the last printed transaction, or the first event's
abbrev pub resume_position : Report → ℕ
resume_position before = unwrap_or (last_position before.transactions) 4

-- the first `count` bytes of the answer over the first `size` bytes of the log, from the resume position
abbrev pub step_stream : Rules → Format → List ℕ → Report → Step → List ℕ
step_stream r format b before step = take step.count (answer_bytes (answer r format program_limit (take step.size b) (resume_position before)))

-- a verdict is a fault; a follower asks again only after `End` and `Closed`
abbrev pub is_fault_verdict : Verdict → Bool
is_fault_verdict verdicts.End = false
is_fault_verdict verdicts.Closed = false
is_fault_verdict _ = true

-- the transactions of a report and then those of a stream, with the verdict of the stream
abbrev pub grown : Report → Report → Report
grown before s = record { transactions = before.transactions ++ s.transactions; verdict = s.verdict }

-- the report after one more step
unfoldable pub next_report : Rules → Format → List ℕ → Report → Step → Report
next_report r format b before step = elim (is_fault_verdict before.verdict) [
  | true ↦ before
  | false ↦ grown before (stream_report r format program_limit (step_stream r format b before step))
]

-- the report after these steps, which are given the newest first
unfoldable pub run_back : Rules → Format → List ℕ → List Step → Report
run_back r format b [] = record { transactions = []; verdict = verdicts.Closed }
run_back r format b (step ∷ earlier) = next_report r format b (run_back r format b earlier) step

-- the report of a run over a binary log
abbrev pub run : Rules → Format → List ℕ → List Step → Report
run r format b steps = run_back r format b (onto [] steps)

-- ---- acknowledgements

-- the acknowledgements that the answer in a step asks for
unfoldable pub step_acknowledgements : Rules → Format → List ℕ → List ℕ → Report → Step → List (List ℕ)
step_acknowledgements r format name b before step = elim (is_fault_verdict before.verdict) [
  | true ↦ []
  | false ↦ acknowledgements r format program_limit name (step_stream r format b before step)
]

-- the acknowledgements of steps, the newest first
unfoldable pub acknowledged_back : Rules → Format → List ℕ → List ℕ → List Step → List (List ℕ)
acknowledged_back r format name b [] = []
acknowledged_back r format name b (step ∷ earlier) = acknowledged_back r format name b earlier ++ step_acknowledgements r format name b (run_back r format b earlier) step

-- the acknowledgements of a run, in order: those that the received parts of the answers ask for
abbrev pub run_acknowledgements : Rules → Format → List ℕ → List ℕ → List Step → List (List ℕ)
run_acknowledgements r format name b steps = acknowledged_back r format name b (onto [] steps)
