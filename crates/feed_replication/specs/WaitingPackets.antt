-- Why an event isn't sent after the packets that wait.
use Rattle.std.specs.Prelude.{◌⊎◌, ℕ, Bool, List, Option}
use Rattle.std.specs.Io.KnownBytes.{Appends}
use Rattle.feed_checks.specs.declared.verdict.Verdict.{Verdict}
use Rattle.feed_transactions.specs.InterruptedWrites.{IsInterruptedWrite}
use Rattle.feed_replication.specs.SendingSteps.{IsSendError}

-- the waiting packets were written, and then the payload wasn't sent
pub record IsUnsentAfter (old new : Option (List ℕ)) (packets : List ℕ) (limit number : ℕ) (payload : List ℕ) (failed : Bool) (v : Verdict) : Type 0 where
  pub mid : Option (List ℕ)
  pub written : Appends old mid packets
  pub unsent : IsSendError mid new limit number payload failed v

-- the writer failed in the waiting packets, or the payload wasn't sent after them
abbrev pub IsWaitingSendError : Option (List ℕ) → Option (List ℕ) → List ℕ → ℕ → ℕ → List ℕ → Bool → Verdict → Type 0
IsWaitingSendError old new packets limit number payload failed v =
    IsInterruptedWrite old new packets failed v ⊎ IsUnsentAfter old new packets limit number payload failed v
