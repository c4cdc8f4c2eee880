-- Texts in one buffer, one after the other.
use Rattle.std.specs.Prelude.{◌≡◌, ◌+◌, ℕ, List, [], ◌∷◌, ◌++◌, length, map, codes}
use Rattle.std.specs.List.{flat_map}
use Rattle.feed_text.specs.Buffers.{text_in}
use Rattle.changes_lines.specs.declared.text_list.TextList.{TextList}
use Rattle.changes_lines.specs.declared.text_list.Texts.{Texts}

-- texts without anything between them
abbrev pub joined : List (List ℕ) → List ℕ
joined texts = flat_map (λ t. t) texts

-- where texts end, the first of which begins here
abbrev pub ends_from : ℕ → List (List ℕ) → List ℕ
ends_from start [] = []
ends_from start (t ∷ ts) = (start + length t) ∷ ends_from (start + length t) ts

-- the list has these texts, and the last text so far
pub record HasTexts (list : TextList) (texts : List (List ℕ)) (last : List ℕ) : Type 0 where
  pub bytes : text_in list.buffer ≡ joined texts ++ last
  pub ends : list.ends.items ≡ ends_from 0 texts

-- these texts are left of a list's
pub record AreLeft (left : Texts) (texts : List (List ℕ)) : Type 0 where
  pub bytes : left.bytes.now ≡ joined texts
  pub ends : left.ends.now ≡ ends_from left.start texts

-- a row with the end of its line
abbrev pub ended : List ℕ → List ℕ
ended row = row ++ codes "}\n"

-- texts were added to those of a list without an last text, for these rows one by one
abbrev pub AddsRows : TextList → TextList → List (List ℕ) → Type 0
AddsRows old new rows = (texts : List (List ℕ)) → HasTexts old texts [] → HasTexts new (texts ++ map ended rows) []
