-- What the state represents that keeps JSON lines.
use Rattle.std.specs.Prelude.{◌≡◌, ℕ, List, [], ◌∷◌, ◌++◌, length}
use Rattle.feed_resume.specs.LineStarts.{IsCompleteLines, NoFeed}
use Rattle.feed_resume.specs.Kept.{total}
use Rattle.changes_resume.specs.KeptJson.{kept_lines, first_line}
use Rattle.changes_resume.specs.declared.line_keeper.LineKeeper.{LineKeeper}

-- bytes of one line, up to its line feed
pub record EndsLine (bytes : List ℕ) : Type 0 where
  pub body : List ℕ
  pub is : bytes ≡ body ++ 10 ∷ []
  pub no_feed : NoFeed body

-- a text is complete lines, of which these are kept, and then a line that hasn't ended
pub record AreLinesOf (complete_len len : ℕ) (last line text : List ℕ) : Type 0 where
  pub prefix : List ℕ
  pub split : text ≡ prefix ++ line
  pub whole : IsCompleteLines prefix
  pub no_feed : NoFeed line
  pub complete_is : complete_len ≡ length prefix
  pub len_is : len ≡ total (kept_lines prefix)
  pub last_is : last ≡ first_line (kept_lines prefix)

-- the keeper took this text
abbrev pub RepresentsLines : LineKeeper → List ℕ → Type 0
RepresentsLines k text = AreLinesOf k.complete_len k.len k.last.items k.line.items text
