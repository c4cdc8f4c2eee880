-- What `kept_json` finds in the bytes of a reader.
use Rattle.std.specs.Prelude.{◌≡◌, ◌<◌, ◌^◌, Bool, true, ℕ, List, [], ◌∷◌, length, Option, Some, None}
use Rattle.std.specs.Io.KnownBytes.{Consumes, IsAtEnd}
use Rattle.changes_resume.specs.KeptJson.{kept_lines, kept_len, first_line}
use Rattle.changes_resume.specs.ResumePoints.{HasResumePoint}
use Rattle.changes_resume.specs.declared.resume_point.ResumePoint.{ResumePoint}
use Rattle.changes_resume.specs.declared.reading.KeptJson.{KeptJson}
use Rattle.changes_resume.specs.declared.reading.KeptJsonError.{KeptJsonError}
use Rattle.changes_resume.specs.declared.reading.KeptJsonError.TheVariants as errors

-- the point after the last of the kept lines; none if no line is kept
abbrev pub IsPointAfter : List (List ℕ) → Option ResumePoint → Type 0
IsPointAfter lines None = lines ≡ []
IsPointAfter lines (Some point) = HasResumePoint (first_line lines) point.file.items point.position

-- the length of the complete transactions, and where to go on after them
pub record IsKeptJson (text : List ℕ) (kept : KeptJson) : Type 0 where
  pub len_is : kept.len ≡ kept_len text
  pub point_is : IsPointAfter (kept_lines text) kept.resume_point

-- some line is kept, and the last has no point to resume from
pub record HasNoPoint (text : List ℕ) : Type 0 where
  pub line : List ℕ
  pub earlier : List (List ℕ)
  pub kept_is : kept_lines text ≡ line ∷ earlier
  pub none : (file : List ℕ) (position : ℕ) → ¬ (HasResumePoint line file position)

-- the reader was read to its end, and this holds for the bytes, if they are fewer than 2^64
pub record ReadsAll (old new : Option (List ℕ)) (holds : List ℕ → Type 0) : Type 0 where
  pub text : List ℕ
  pub consumed : Consumes old new text
  pub at_end : IsAtEnd new
  pub found : length text < 2 ^ 64 → holds text

-- why nothing was found: out of memory, the reader failed, or the last line of the transactions has no point to resume from
abbrev pub IsKeptJsonError : Option (List ℕ) → Option (List ℕ) → Bool → KeptJsonError → Type 0
IsKeptJsonError old new failed errors.Memory = Unit {0}
IsKeptJsonError old new failed errors.Read = failed ≡ true
IsKeptJsonError old new failed errors.Line = ReadsAll old new HasNoPoint

-- why the text wasn't read
abbrev pub IsInputError : Bool → KeptJsonError → Type 0
IsInputError failed errors.Memory = Unit {0}
IsInputError failed errors.Read = failed ≡ true
IsInputError failed errors.Line = ⊥
