-- What a rehearsal wrote and returned from step to step, and what its follower's state represents.
use Rattle.std.specs.Prelude.{◌≡◌, ℕ, Bool, true, false, List, ◌++◌, Option}
use Rattle.std.specs.Io.KnownBytes.{Appends}
use Rattle.feed_checks.specs.declared.verdict.Verdict.{Verdict}
use Rattle.feed_checks.specs.declared.verdict.Verdict.TheVariants as verdicts
use Rattle.feed_transactions.specs.Rules.{Rules}
use Rattle.feed_transactions.specs.TransactionTexts.{texts_of}
use Rattle.feed_checks.specs.LogFormat.{joined}
use Rattle.feed_transactions.specs.Reports.{Report}
use Rattle.feed_replication.specs.declared.follower.Follower.{Follower}
use Rattle.feed_replication.specs.ResumePositions.{position_after}
use Rattle.feed_replication.specs.Following.{ResumesAfter, limit_of, format_of, name_of, asked_position_of}
use Rattle.feed_replication.specs.declared.format.PayloadFormat.{PayloadFormat as Format}
use Rattle.feed_replication.specs.declared.served.Served.{Served}
use Rattle.feed_replication.specs.declared.served.Served.TheVariants.{Fault}
use Rattle.feed_replication.specs.Streams.{program_limit}
use Rattle.feed_replication.specs.Runs.{resume_position}

-- an answer ended early: out of memory, or a failing device
abbrev pub ends_early : Served → Bool
ends_early (Fault verdicts.Memory) = true
ends_early (Fault verdicts.Read) = true
ends_early (Fault verdicts.Write) = true
ends_early _ = false

-- the verdict of a step, given whether its acknowledgements were kept
abbrev pub verdict_by_acks : Verdict → Bool → Verdict
verdict_by_acks verdicts.Write kept = verdicts.Write
verdict_by_acks v true = v
verdict_by_acks v false = verdicts.Memory

-- The follower resumes from the position after the last transaction of a report.
pub record HasRun {F : Type 0} (r : Rules) (format : Format) (name : List ℕ) (f : Follower F) (report : Report) : Type 0 where
  pub stream : List ℕ
  pub printed : ResumesAfter r format f stream
  pub asks : position_after r format (limit_of f) stream (asked_position_of f) ≡ resume_position report
  pub limit_is : limit_of f ≡ program_limit
  pub name_is : name_of f ≡ name
  pub format_is : format_of f ≡ format

-- All texts after those that were written before have been written.
pub record WritesRest (before all : List (List ℕ)) (old new : Option (List ℕ)) : Type 0 where
  pub rest : List (List ℕ)
  pub is_all : all ≡ before ++ rest
  pub written : Appends old new (joined rest)

pub record WritesSomeOfRest (before all : List (List ℕ)) (old new : Option (List ℕ)) : Type 0 where
  pub some : List (List ℕ)
  pub more : List (List ℕ)
  pub is_all : all ≡ (before ++ some) ++ more
  pub written : Appends old new (joined some)

pub record WritesPrefixOfRest (before all : List (List ℕ)) (old new : Option (List ℕ)) : Type 0 where
  pub text : List ℕ
  pub more : List ℕ
  pub is_all : joined all ≡ joined before ++ (text ++ more)
  pub written : Appends old new text

-- What a step wrote and returned, given the reports before and after it.
abbrev pub StepResult : {F : Type 0} → Rules → Format → List ℕ → Follower F → Report → Report → Option (List ℕ) → Option (List ℕ) → Verdict → Type 0
StepResult r format name f before after old new verdicts.Memory = WritesSomeOfRest (texts_of before.transactions) (texts_of after.transactions) old new
StepResult r format name f before after old new verdicts.Write = WritesPrefixOfRest (texts_of before.transactions) (texts_of after.transactions) old new
StepResult r format name f before after old new v =
    WritesRest (texts_of before.transactions) (texts_of after.transactions) old new × (v ≡ after.verdict)
    × HasRun r format name f after
