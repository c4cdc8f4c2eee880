-- Text and bytes as strings in the lines of Maxwell, Debezium and Canal.
use Rattle.std.specs.Prelude.{◌≡◌, ◌⊎◌, ℕ, ◌+◌, ◌/◌, ◌%◌, List, [], ◌∷◌, ◌++◌, nat_lt, if◌then◌else◌}
use Rattle.std.specs.List.{flat_map}
use Rattle.changes_character_sets.specs.Texts.{IsTextOf}
use Rattle.changes_character_sets.specs.declared.character_set.CharacterSet.{CharacterSet}
use Rattle.changes_writers.specs.JsonStrings.{json_byte, json_string}

-- a byte among bytes that aren't text: ASCII as it is, and U+FFFD for another
abbrev pub replaced_byte : ℕ → List ℕ
replaced_byte b = if nat_lt b 128 then json_byte b else 239 ∷ 191 ∷ 189 ∷ []

abbrev pub replaced : List ℕ → List ℕ
replaced bytes = 34 ∷ flat_map replaced_byte bytes ++ 34 ∷ []

-- a string of text in a character set
pub record IsTextString (set : CharacterSet) (bytes text : List ℕ) : Type 0 where
  pub decoded : List ℕ
  pub is : IsTextOf set bytes decoded
  pub text_is : text ≡ json_string decoded

-- the same, or a string of bytes that aren't text
abbrev pub IsEnvelopeText : CharacterSet → List ℕ → List ℕ → Type 0
IsEnvelopeText set bytes text = IsTextString set bytes text ⊎ (((decoded : List ℕ) → IsTextOf set bytes decoded → ⊥) × (text ≡ replaced bytes))

-- the character with the number of a byte (ISO 8859-1), in UTF-8
abbrev pub character : ℕ → List ℕ
character b = if nat_lt b 128 then b ∷ [] else (192 + b / 64) ∷ (128 + b % 64) ∷ []

abbrev pub characters : List ℕ → List ℕ
characters bytes = json_string (flat_map character bytes)
