-- A reader that is read to its end.
use Rattle.std.specs.Prelude.{◌≡◌, Bool, true, ℕ, List, Option, IfSome}
use Rattle.feed_checks.specs.declared.verdict.Verdict.{Verdict}
use Rattle.feed_checks.specs.declared.verdict.Verdict.TheVariants as verdicts

-- the bytes are all that the reader had to give
abbrev pub IsWhole : Option (List ℕ) → List ℕ → Type 0
IsWhole input bytes = IfSome input (λ b. bytes ≡ b)

-- why the bytes weren't read: out of memory, or the reader failed
abbrev pub IsInputFailure : Verdict → Bool → Type 0
IsInputFailure verdicts.Memory failed = Unit {0}
IsInputFailure verdicts.Read failed = failed ≡ true
IsInputFailure _ failed = ⊥
