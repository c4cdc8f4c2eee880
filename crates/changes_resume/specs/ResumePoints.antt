-- The file and the position of a JSON line (docs/FORMAT.md, "JSON lines").
use Rattle.std.specs.Prelude.{◌≡◌, ℕ, ◌<◌, ◌^◌, List, ◌∷◌, ◌++◌, length, codes}
use Rattle.std.specs.Fmt.{decimal}
use Rattle.memchr.specs.Find.{OccursAt}
use Rattle.changes_writers.specs.JsonStrings.{json_string}

-- `position` with this number, and the next member
pub record BeginsWithPosition (text : List ℕ) (position : ℕ) : Type 0 where
  pub after : List ℕ
  pub split : text ≡ codes ",\"position\":" ++ (decimal position ++ 44 ∷ after)
  pub fits : position < 2 ^ 32

-- The line's members `file` and `position`, one after the other. Within a string a quote has a backslash before it, so the first `,"file":"` is the member of the line.
pub record HasResumePoint (line file : List ℕ) (position : ℕ) : Type 0 where
  pub before : List ℕ
  pub after : List ℕ
  pub split : line ≡ before ++ (codes ",\"file\":" ++ (json_string file ++ after))
  pub first : (k : ℕ) → k < length before → ¬ (OccursAt line (codes ",\"file\":\"") k)
  pub position_is : BeginsWithPosition after position
