-- What bytes are in a character set, and the start of a buffer that has their text in UTF-8.
use Rattle.std.specs.Prelude.{⊤, ◌≤◌, ℕ, List, take}
use Rattle.changes_character_sets.specs.Texts.{IsTextOf}
use Rattle.changes_character_sets.specs.declared.character_set.CharacterSet.{CharacterSet}
use Rattle.changes_cells.specs.declared.decoding.Decoded.{Decoded}
use Rattle.changes_cells.specs.declared.decoding.Decoded.TheVariants.{Text, NoText, LongText}

-- the first n bytes of the buffer are the text; the bytes are no text; or nothing more is stated
abbrev pub IsDecoded : CharacterSet → List ℕ → List ℕ → Decoded → Type 0
IsDecoded s bytes buffer (Text n) = (n ≤ 66) × IsTextOf s bytes (take n buffer)
IsDecoded s bytes buffer NoText = (text : List ℕ) → ¬ (IsTextOf s bytes text)
IsDecoded s bytes buffer LongText = ⊤
