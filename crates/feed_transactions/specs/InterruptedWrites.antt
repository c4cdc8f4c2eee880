-- The result of an interrupted write.
use Rattle.std.specs.Prelude.{◌≡◌, ℕ, Bool, true, List, ◌++◌, Option}
use Rattle.std.specs.Io.KnownBytes.{Appends}
use Rattle.feed_checks.specs.declared.verdict.Verdict.{Verdict}
use Rattle.feed_checks.specs.declared.verdict.Verdict.TheVariants as verdicts

-- a prefix of the bytes was written
pub record WritesPrefix (old new : Option (List ℕ)) (bytes : List ℕ) : Type 0 where
  pub prefix : List ℕ
  pub suffix : List ℕ
  pub parts : prefix ++ suffix ≡ bytes
  pub written : Appends old new prefix

abbrev pub IsInterruptedWrite : Option (List ℕ) → Option (List ℕ) → List ℕ → Bool → Verdict → Type 0
IsInterruptedWrite old new bytes failed v = (v ≡ verdicts.Write) × WritesPrefix old new bytes × (failed ≡ true)

-- all of the bytes but the rest were written
pub record HasWritten (old new : Option (List ℕ)) (bytes rest : List ℕ) : Type 0 where
  pub prefix : List ℕ
  pub parts : prefix ++ rest ≡ bytes
  pub written : Appends old new prefix
