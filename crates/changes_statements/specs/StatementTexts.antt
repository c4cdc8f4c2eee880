-- Texts in one buffer, one after the other.
use Rattle.std.specs.Prelude.{◌≡◌, ◌+◌, ℕ, List, [], ◌∷◌, ◌++◌, length}
use Rattle.feed_checks.specs.LogFormat.{joined}
use Rattle.feed_text.specs.Buffers.{text_in}
use Rattle.changes_statements.specs.declared.text_list.TextList.{TextList}
use Rattle.changes_statements.specs.declared.text_list.Texts.{Texts}

-- the ends of texts, the first of which begins at this offset
abbrev pub ends_from : ℕ → List (List ℕ) → List ℕ
ends_from start [] = []
ends_from start (t ∷ ts) = (start + length t) ∷ ends_from (start + length t) ts

-- the list has these texts, and the open text so far
pub record HasOpen (list : TextList) (texts : List (List ℕ)) (last : List ℕ) : Type 0 where
  pub bytes : text_in list.buffer ≡ joined texts ++ last
  pub ends : list.ends.items ≡ ends_from 0 texts

-- these texts are left of a list's
pub record AreLeft (left : Texts) (texts : List (List ℕ)) : Type 0 where
  pub bytes : left.bytes.now ≡ joined texts
  pub ends : left.ends.now ≡ ends_from left.start texts
