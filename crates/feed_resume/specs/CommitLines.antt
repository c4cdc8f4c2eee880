-- The lines of the feed's text, and the last line of a transaction.
use Rattle.std.specs.Prelude.{ℕ, List, [], ◌∷◌, ◌++◌, codes}
use Rattle.std.specs.Fmt.{decimal}

-- a line and its line feed
abbrev pub with_line_feed : List ℕ → List ℕ
with_line_feed line = line ++ 10 ∷ []

-- `commit `, the position after the transaction, and a line feed
abbrev pub commit_line : ℕ → List ℕ
commit_line position = with_line_feed (codes "commit " ++ decimal position)
