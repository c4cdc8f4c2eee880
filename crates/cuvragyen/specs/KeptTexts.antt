-- How much of truncated output is complete transactions, as a structure of C's has it.
use Rattle.std.specs.Prelude.{◌≡◌, ℕ, true, false, List, [], length, min, take, Option, Some, None}
use Rattle.changes_resume.specs.KeptJson.{kept_lines, kept_len, first_line}
use Rattle.changes_resume.specs.ResumePoints.{HasResumePoint}
use Rattle.cuvragyen.specs.declared.kept.KeptText.{KeptText}

-- the log and the position after the last of these lines; the buffer has as much of the name as there is room for
pub record HasPoint (lines : List (List ℕ)) (x : KeptText) (file : List ℕ) : Type 0 where
  pub name : List ℕ
  pub is : HasResumePoint (first_line lines) name x.position
  pub len : x.file_len ≡ min (length name) (length file)
  pub copied : take x.file_len file ≡ take x.file_len name

-- what is kept of JSON lines
pub record FindsJson (text : List ℕ) (x : KeptText) (file : List ℕ) : Type 0 where
  pub len : x.len ≡ kept_len text
  pub some : x.has_position ≡ true → HasPoint (kept_lines text) x file
  pub none : x.has_position ≡ false → kept_lines text ≡ []

-- the length of what is kept, and the position after it, if there is one
abbrev pub HasPosition : KeptText → ℕ → Option ℕ → Type 0
HasPosition x len None = (x.len ≡ len) × (x.has_position ≡ false)
HasPosition x len (Some position) = (x.len ≡ len) × ((x.has_position ≡ true) × (x.position ≡ position))
