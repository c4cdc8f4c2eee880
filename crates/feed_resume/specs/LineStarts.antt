-- The start of a text's last line.
use Rattle.std.specs.Prelude.{◌≡◌, ℕ, ◌≤◌, ◌⊎◌, ◌==◌, false, List, [], ◌∷◌, ◌++◌, length, take, drop}

-- no bytes, or a text that ends with a line feed
abbrev pub IsCompleteLines : List ℕ → Type 0
IsCompleteLines text = (text ≡ []) ⊎ ((prefix : List ℕ) × (text ≡ prefix ++ 10 ∷ []))

-- no byte is a line feed
abbrev pub NoFeed : List ℕ → Type 0
NoFeed [] = Unit {0}
NoFeed (c ∷ text) = ((c == 10) ≡ false) × NoFeed text

-- the offset after a text's last line feed, or 0 if there is none
pub record IsLastLineStart (text : List ℕ) (at : ℕ) : Type 0 where
  pub within : at ≤ length text
  pub whole : IsCompleteLines (take at text)
  pub rest : NoFeed (drop at text)
