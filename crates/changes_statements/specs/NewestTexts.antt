-- Texts in one buffer, of which the newest is written first.
use Rattle.std.specs.Prelude.{◌≡◌, ℕ, List, [], ◌∷◌, ◌++◌, Option, length}
use Rattle.feed_transactions.specs.Waiting.{WritesSome}
use Rattle.changes_statements.specs.declared.newest_first.NewestFirst.{NewestFirst}

-- the bytes are those of the texts, of which the newest comes last there and first in the list; each begins at its offset
abbrev pub AreTexts : List (List ℕ) → List ℕ → List ℕ → Type 0
AreTexts [] bytes starts = (bytes ≡ []) × (starts ≡ [])
AreTexts (text ∷ texts) bytes starts = (before : List ℕ) × (others : List ℕ) × (bytes ≡ before ++ text) × (starts ≡ others ++ length before ∷ []) × AreTexts texts before others

-- it has these texts, the newest first
abbrev pub HasTexts : NewestFirst → List (List ℕ) → Type 0
HasTexts t texts = AreTexts texts t.bytes.items t.starts.items

-- the newest text was written and dropped
abbrev pub WritesNewest : NewestFirst → NewestFirst → Option (List ℕ) → Option (List ℕ) → List ℕ → List ℕ → Type 0
WritesNewest old new before after waiting waiting_then =
    (text : List ℕ) (texts : List (List ℕ)) → HasTexts old (text ∷ texts) → HasTexts new texts × WritesSome before after waiting text waiting_then
