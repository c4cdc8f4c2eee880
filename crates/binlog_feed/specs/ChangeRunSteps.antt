-- What is applied of one answer, and of one step of a run; and where the follower then goes on.
use Rattle.std.specs.Prelude.{◌≡◌, ℕ, List, [], take, Result, Ok, Err}
use Rattle.std.specs.Bool.{⊤}
use Rattle.feed_checks.specs.declared.verdict.Verdict.{Verdict}
use Rattle.feed_checks.specs.declared.verdict.Verdict.TheVariants as verdicts
use Rattle.feed_transactions.specs.Changes.{Committed}
use Rattle.feed_transactions.specs.Reports.{Report}
use Rattle.feed_transactions.specs.Rules.{rules}
use Rattle.feed_replication.specs.declared.format.PayloadFormat.{PayloadFormat as Format}
use Rattle.feed_replication.specs.declared.step.Step.{Step}
use Rattle.feed_replication.specs.Runs.{resume_position, next_report}
use Rattle.feed_replication.specs.Streams.{program_limit}
use Rattle.binlog_feed.specs.Appliers.{HasApplied, Applies}
use Rattle.binlog_feed.specs.ChangeFollowing.{limit_of, name_of, format_of, asked_position_of, Reading, commits_of, verdict_of, ResumesAfter}
use Rattle.binlog_feed.specs.ChangeRuns.{step_committed}
use Rattle.binlog_feed.specs.StreamCommits.{position_after_last}
use Rattle.binlog_feed.specs.declared.change_follower.ChangeFollower.{ChangeFollower}

-- all that these bytes commit was applied, this is their verdict, and the follower goes on after that
pub record AppliesAll {F A : Type 0} (has_applied : HasApplied A) (x : Reading) (f : ChangeFollower F) (s : List ℕ) (old new : A) (v : Verdict) : Type 0 where
  pub applied : Applies has_applied old new (commits_of x s)
  pub verdict : verdict_of x s ≡ v
  pub resumes : ResumesAfter f (commits_of x s)

-- the same by the verdict; out of memory the first few were applied
abbrev pub AppliesBy : {F A : Type 0} → HasApplied A → Reading → ChangeFollower F → List ℕ → A → A → Verdict → Type 0
AppliesBy has_applied x f s old new verdicts.Memory = (j : ℕ) × Applies has_applied old new (take j (commits_of x s))
AppliesBy has_applied x f s old new v = AppliesAll has_applied x f s old new v

-- the same by the result; without an error the stream goes on
abbrev pub AppliesPiece : {F A : Type 0} → HasApplied A → Reading → ChangeFollower F → List ℕ → A → A → Result ⊤ Verdict → Type 0
AppliesPiece has_applied x f s old new (Ok u) = AppliesAll has_applied x f s old new verdicts.Closed
AppliesPiece has_applied x f s old new (Err v) = AppliesBy has_applied x f s old new v

-- the follower resumes from the position after the last transaction of a report
pub record HasRun {F : Type 0} (format : Format) (f : ChangeFollower F) (report : Report) : Type 0 where
  pub dealt : List Committed
  pub resumes : ResumesAfter f dealt
  pub asks : position_after_last dealt (asked_position_of f) ≡ resume_position report
  pub limit_is : limit_of f ≡ program_limit
  pub name_is : name_of f ≡ []
  pub format_is : format_of f ≡ format

-- what a step applied, and its verdict, by which the follower goes on
abbrev pub AppliesStep : {F A : Type 0} → HasApplied A → (List ℕ → ℕ) → Format → List ℕ → Report → Step → ChangeFollower F → A → A → Verdict → Type 0
AppliesStep has_applied f format b before step follower old new verdicts.Memory = (j : ℕ) × Applies has_applied old new (take j (step_committed f format b before step))
AppliesStep has_applied f format b before step follower old new v =
    Applies has_applied old new (step_committed f format b before step) × (v ≡ (next_report (rules f) format b before step).verdict) × HasRun format follower (next_report (rules f) format b before step)
