-- What a rehearsal wrote and returned, and what its follower's state represents from step to step.
use Rattle.std.specs.Prelude.{◌≡◌, ℕ, Bool, true, List, ◌++◌, length, take, map, Option}
use Rattle.std.specs.Io.KnownBytes.{Appends}
use Rattle.feed_checks.specs.declared.verdict.Verdict.{Verdict}
use Rattle.feed_checks.specs.declared.verdict.Verdict.TheVariants as verdicts
use Rattle.feed_transactions.specs.Rules.{Rules}
use Rattle.feed_transactions.specs.TransactionTexts.{text_of}
use Rattle.feed_transactions.specs.Transactions.{Transaction}
use Rattle.feed_transactions.specs.Reports.{Report, file_transactions}
use Rattle.feed_replication.specs.declared.format.PayloadFormat.{PayloadFormat as Format}
use Rattle.feed_replication.specs.declared.step.Step.{Step}
use Rattle.feed_replication.specs.Headline.{PrintsTheLog}

-- a step with the log's first `size` bytes and `count` bytes of the answer
abbrev pub step_of : ℕ → ℕ → Step
step_of size count = record { size = size; count = count }

-- the steps of a run in which the whole log is there
abbrev pub whole_steps : List ℕ → List ℕ → List Step
whole_steps b counts = map (step_of (length b)) counts

-- ---- what a rehearsal guarantees, given the report of the run

-- what a rehearsal wrote of the run's text: all; after `Memory` the first few transactions; after `Write` a prefix
abbrev pub Rehearses : Report → Option (List ℕ) → Option (List ℕ) → Verdict → Type 0
-- out of memory: the text of the first few transactions, each complete
Rehearses report old new verdicts.Memory = (j : ℕ) × Appends old new (text_of (take j report.transactions))
-- the writer failed: a prefix of the text
Rehearses report old new verdicts.Write = (text more : List ℕ) × (text ++ more ≡ text_of report.transactions) × Appends old new text
-- any other verdict: the whole text and the verdict
Rehearses report old new v = Appends old new (text_of report.transactions) × (v ≡ report.verdict)

-- `Write` is returned only if the writer failed, and `Read` never
abbrev pub IsRunFailure : Verdict → Bool → Type 0
IsRunFailure verdicts.Read failed = ⊥
IsRunFailure verdicts.Write failed = failed ≡ true
IsRunFailure _ failed = Unit {0}

-- ---- what was written

-- what was written of the log's transactions: those of `PrintsTheLog`; after `Memory` the first few; after `Write` a prefix
abbrev pub FollowsTheLog : Rules → Format → List ℕ → List Step → Option (List ℕ) → Option (List ℕ) → Verdict → Type 0
-- out of memory: the text of the first few, in order, each once
FollowsTheLog r format b steps old new verdicts.Memory = (j : ℕ) × Appends old new (text_of (take j (file_transactions r b)))
-- the writer failed: a prefix of their text
FollowsTheLog r format b steps old new verdicts.Write = (text more : List ℕ) × (text ++ more ≡ text_of (file_transactions r b)) × Appends old new text
-- any other verdict: the text of all that was to be printed
FollowsTheLog r format b steps old new v = (printed : List Transaction) × PrintsTheLog r format b steps printed × Appends old new (text_of printed)
