-- The exit status of a run, and the word that it prints on standard error.
use Rattle.std.specs.Prelude.{◌≡◌}
use Rattle.feed_checks.specs.declared.verdict.Verdict.{Verdict}
use Rattle.feed_checks.specs.Verdicts.{verdict_name, verdict_status}
use Rattle.feed_replication.specs.RequestErrors.{request_error_name}
use Rattle.feed_replication.specs.ServedNames.{served_name}
use Rattle.feed_replication.specs.declared.requests.RequestError.{RequestError}
use Rattle.feed_replication.specs.declared.served.Served.{Served}
use Rattle.feed_replication.specs.declared.served.Served.TheVariants.{Whole}
use Rattle.program_feed.specs.declared.endings.Ending.{Ending}
use Rattle.program_feed.specs.declared.endings.Ending.TheVariants.{Success, Failure}

-- status 0 without a word for `End`; else status 1 and the verdict's name
abbrev pub IsVerdictEnding : Verdict → Ending → Type 0
IsVerdictEnding v Success = verdict_status v ≡ 0
IsVerdictEnding v (Failure word) = (verdict_status v ≡ 1) × (word.now ≡ verdict_name v)

-- status 0 without a word for `Whole`; else status 1 and the result's name
abbrev pub IsServedEnding : Served → Ending → Type 0
IsServedEnding Whole ending = ending ≡ Success
IsServedEnding s Success = ⊥
IsServedEnding s (Failure word) = word.now ≡ served_name s

-- status 1 and the error's name
abbrev pub IsRequestErrorEnding : RequestError → Ending → Type 0
IsRequestErrorEnding e Success = ⊥
IsRequestErrorEnding e (Failure word) = word.now ≡ request_error_name e
