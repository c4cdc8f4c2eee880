-- The complete transactions of truncated JSON lines (docs/FORMAT.md, "JSON lines").
use Rattle.std.specs.Prelude.{ℕ, Bool, ◌||◌, List, [], ◌∷◌, codes, nat_eq, if◌then◌else◌}
use Rattle.std.specs.List.{ends_with}
use Rattle.feed_resume.specs.Conditions.{onto}
use Rattle.feed_resume.specs.Kept.{lines, total}

-- The last line of a transaction: its last member is `commit`. A line that is a transaction, with `--transactions`, ends with the array of its changes.
abbrev pub is_last_line : List ℕ → Bool
is_last_line line = ends_with nat_eq line (codes ",\"commit\":true}\n") || ends_with nat_eq line (codes "]}\n")

-- lines, the last one first, without those after the last that ends a transaction
unfoldable pub kept_lines_back : List (List ℕ) → List (List ℕ)
kept_lines_back [] = []
kept_lines_back (line ∷ earlier) = if is_last_line line then line ∷ earlier else kept_lines_back earlier

-- the complete lines of a text up to the last that ends a transaction, this one first
unfoldable pub kept_lines : List ℕ → List (List ℕ)
kept_lines text = kept_lines_back (onto [] (lines text))

-- their length
abbrev pub kept_len : List ℕ → ℕ
kept_len text = total (kept_lines text)

-- the first of some lines, or nothing if there is none
abbrev pub first_line : List (List ℕ) → List ℕ
first_line [] = []
first_line (line ∷ earlier) = line
