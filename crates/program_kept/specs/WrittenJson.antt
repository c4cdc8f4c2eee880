-- What `binlog-kept --json` writes.
use Rattle.std.specs.Prelude.{◌≡◌, ◌<◌, ◌^◌, ◌==◌, ◌⊎◌, Bool, true, false, ℕ, List, [], ◌∷◌, ◌++◌, length, codes, Option, Some, None, IfSome, Result, Ok, Err}
use Rattle.std.specs.List.{list_any}
use Rattle.std.specs.Fmt.{decimal}
use Rattle.std.specs.Io.KnownBytes.{Appends, Keeps}
use Rattle.wire_buf.specs.Transfers.{WritesPrefix}
use Rattle.changes_resume.specs.FoundJson.{IsKeptJson, HasNoPoint}
use Rattle.changes_resume.specs.declared.resume_point.ResumePoint.{ResumePoint}
use Rattle.changes_resume.specs.declared.reading.KeptJson.{KeptJson}
use Rattle.program_kept.specs.declared.finding.Failure.{Failure}
use Rattle.program_kept.specs.declared.finding.Failure.TheVariants as failures

-- the length of the complete transactions, the position after them and the name of its log, with spaces between, and a line feed; if there are none, 4 and no name
abbrev pub point_line : ℕ → Option ResumePoint → List ℕ
point_line len None = decimal len ++ codes " 4\n"
point_line len (Some point) = decimal len ++ 32 ∷ (decimal point.position ++ 32 ∷ (point.file.items ++ 10 ∷ []))

-- whether the name has a line feed
abbrev pub has_line_feed : Option ResumePoint → Bool
has_line_feed None = false
has_line_feed (Some point) = list_any (λ b. b == 10) point.file.items

-- the line for a text
pub record IsLineFor (text line : List ℕ) : Type 0 where
  pub kept : KeptJson
  pub is_kept : IsKeptJson text kept
  pub is : line ≡ point_line kept.len kept.resume_point
  pub one_line : has_line_feed kept.resume_point ≡ false

-- the name has a line feed
pub record HasTwoLines (text : List ℕ) : Type 0 where
  pub kept : KeptJson
  pub is_kept : IsKeptJson text kept
  pub two_lines : has_line_feed kept.resume_point ≡ true

-- the line was appended
pub record AppendsLine (text : List ℕ) (before written : Option (List ℕ)) : Type 0 where
  pub line : List ℕ
  pub is : IsLineFor text line
  pub appended : Appends before written line

-- a prefix of the line was appended
pub record BeginsLine (text : List ℕ) (before written : Option (List ℕ)) : Type 0 where
  pub line : List ℕ
  pub is : IsLineFor text line
  pub begun : WritesPrefix line before written

-- the line of the reader's text was written; if the writer failed, a prefix of it; if there is no such line, nothing
abbrev pub WritesKeptJson : Option (List ℕ) → Bool → Bool → Option (List ℕ) → Option (List ℕ) → Result (Unit {0}) Failure → Type 0
WritesKeptJson input read_failed write_failed before written (Ok _) = IfSome input (λ text. length text < 2 ^ 64 → AppendsLine text before written)
WritesKeptJson input read_failed write_failed before written (Err failures.Write) = IfSome input (λ text. length text < 2 ^ 64 → BeginsLine text before written) × (write_failed ≡ true)
WritesKeptJson input read_failed write_failed before written (Err failures.Memory) = Keeps before written
WritesKeptJson input read_failed write_failed before written (Err failures.Read) = Keeps before written × (read_failed ≡ true)
WritesKeptJson input read_failed write_failed before written (Err failures.Line) = Keeps before written × IfSome input (λ text. length text < 2 ^ 64 → HasNoPoint text ⊎ HasTwoLines text)
WritesKeptJson input read_failed write_failed before written (Err failures.Usage) = ⊥
WritesKeptJson input read_failed write_failed before written (Err failures.Open) = ⊥
