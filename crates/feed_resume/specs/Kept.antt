-- The complete transactions of a truncated text of the feed, and the position after the last of them.
use Rattle.std.specs.Prelude.{ℕ, ◌+◌, ◌-◌, ◌^◌, true, false, ◌&&◌, List, [], ◌∷◌, length, take, drop, Option, Some, None, nat_lt, ◌==◌}
use Rattle.std.specs.Str.{bytes_eq}
use Rattle.std.specs.Str.Parse.{digits_value}
use Rattle.feed_resume.specs.Conditions.{when, onto}
use Rattle.feed_resume.specs.CommitLines.{commit_line}

-- lines with one more byte before the first of them
abbrev pub prepend_byte : ℕ → List (List ℕ) → List (List ℕ)
prepend_byte c [] = []
prepend_byte c (line ∷ lines) = (c ∷ line) ∷ lines

-- The lines of a text, each with its line feed. A line feed before a text is a line by itself; any other byte belongs to the first line, if there is one. So the bytes after the last line feed are no line.
unfoldable pub lines : List ℕ → List (List ℕ)
lines [] = []
lines (c ∷ text) = elim (c == 10) [ true ↦ (10 ∷ []) ∷ lines text | false ↦ prepend_byte c (lines text) ]

-- the number after the first seven bytes of a line, up to its line feed
abbrev pub number_in : List ℕ → ℕ
number_in line = digits_value 10 (drop 7 (take (length line - 1) line))

-- the position of a commit line: a line is one if it is the commit line of its number, and the number fits in 32 bits
unfoldable pub commit_in : List ℕ → Option ℕ
commit_in line = when (nat_lt (number_in line) (2 ^ 32) && bytes_eq (commit_line (number_in line)) line) (number_in line)

-- the length of lines
abbrev pub total : List (List ℕ) → ℕ
total [] = 0
total (line ∷ lines) = length line + total lines

-- the length up to the end of the last commit line, and its position; the last line comes first
unfoldable pub kept_back : List (List ℕ) → ℕ × Option ℕ
kept_back [] = (0, None)
kept_back (line ∷ earlier) = elim (commit_in line) [
  | Some position ↦ (total (line ∷ earlier), Some position)
  | None ↦ kept_back earlier
]

-- the length of a text's complete transactions, and the position after them; 0 and none if there is no commit line
unfoldable pub kept : List ℕ → ℕ × Option ℕ
kept text = kept_back (onto [] (lines text))
