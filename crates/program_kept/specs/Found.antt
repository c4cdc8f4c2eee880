-- What `binlog-kept` writes, and the word that it prints if it fails.
use Rattle.std.specs.Prelude.{◌≡◌, ◌<◌, ◌^◌, Bool, true, ℕ, List, [], ◌∷◌, ◌++◌, length, codes, Option, IfSome, Result, Ok, Err, unwrap_or}
use Rattle.std.specs.Fmt.{decimal}
use Rattle.std.specs.Io.KnownBytes.{Consumes, Appends, Keeps, IsAtEnd}
use Rattle.wire_buf.specs.Transfers.{WritesPrefix}
use Rattle.feed_resume.specs.Kept.{kept}
use Rattle.feed_resume.specs.Keepers.{RepresentsText}
use Rattle.feed_resume.specs.declared.keeper.Keeper.{Keeper}
use Rattle.program_kept.specs.declared.finding.Failure.{Failure}
use Rattle.program_kept.specs.declared.finding.Failure.TheVariants as failures

-- the word for a failure
abbrev pub failure_name : Failure → List ℕ
failure_name failures.Usage = codes "Usage"
failure_name failures.Open = codes "Open"
failure_name failures.Memory = codes "Memory"
failure_name failures.Read = codes "Read"
failure_name failures.Write = codes "Write"
failure_name failures.Line = codes "Line"

-- the reader was read to its end, and the keeper took these bytes, if they are fewer than 2^64
pub record HasKept (old new : Option (List ℕ)) (keeper : Keeper) : Type 0 where
  pub text : List ℕ
  pub consumed : Consumes old new text
  pub at_end : IsAtEnd new
  pub represents : length text < 2 ^ 64 → RepresentsText keeper text

-- why the text wasn't read: out of memory, or the reader failed
abbrev pub IsInputFailure : Bool → Failure → Type 0
IsInputFailure failed failures.Memory = Unit {0}
IsInputFailure failed failures.Read = failed ≡ true
IsInputFailure failed _ = ⊥

-- the length of the complete transactions, a space, the position after them, or 4 if there are none, and a line feed
abbrev pub kept_line : ℕ × Option ℕ → List ℕ
kept_line k = decimal k.0 ++ 32 ∷ (decimal (unwrap_or k.1 4) ++ 10 ∷ [])

-- the line of the reader's text was written; if the writer failed, a prefix of it; if the text wasn't read, nothing
abbrev pub WritesKept : Option (List ℕ) → Bool → Bool → Option (List ℕ) → Option (List ℕ) → Result (Unit {0}) Failure → Type 0
WritesKept input read_failed write_failed before written (Ok _) = IfSome input (λ text. length text < 2 ^ 64 → Appends before written (kept_line (kept text)))
WritesKept input read_failed write_failed before written (Err failures.Write) = IfSome input (λ text. length text < 2 ^ 64 → WritesPrefix (kept_line (kept text)) before written) × (write_failed ≡ true)
WritesKept input read_failed write_failed before written (Err failures.Memory) = Keeps before written
WritesKept input read_failed write_failed before written (Err failures.Read) = Keeps before written × (read_failed ≡ true)
WritesKept input read_failed write_failed before written (Err failures.Usage) = ⊥
WritesKept input read_failed write_failed before written (Err failures.Open) = ⊥
WritesKept input read_failed write_failed before written (Err failures.Line) = ⊥
