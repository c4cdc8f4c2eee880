-- The members of ENUM and SET columns, and names, as JSON (MySQL Reference Manual, "The ENUM Type", "The SET Type"; RFC 8259).
use Rattle.std.specs.Prelude.{◌≡◌, ◌++◌, ℕ, List, if◌then◌else◌}
use Rattle.std.specs.Str.{is_utf8}
use Rattle.changes_character_sets.specs.declared.character_set.CharacterSet.{CharacterSet}
use Rattle.changes_character_sets.specs.Texts.{IsTextOf}
use Rattle.changes_writers.specs.JsonStrings.{json_string}
use Rattle.changes_writers.specs.Base64Texts.{base64_string, base64_object}
use Rattle.changes_tables.specs.declared.columns.Shown.{Shown}
use Rattle.changes_tables.specs.declared.columns.Shown.TheVariants.{Text, Binary}

-- bytes of a character set as JSON: their text as a string, or an object with their Base64 if they are no text
pub data IsJsonIn (set : CharacterSet) (bytes json : List ℕ) : Type 0 where
  string : (text : List ℕ) → IsTextOf set bytes text → json ≡ json_string text → IsJsonIn set bytes json
  object : ((text : List ℕ) → IsTextOf set bytes text → ⊥) → json ≡ base64_object bytes → IsJsonIn set bytes json

-- the member of an ENUM or a SET as JSON
abbrev pub IsMemberJson : Shown → List ℕ → List ℕ → Type 0
IsMemberJson (Text set) bytes json = IsJsonIn set bytes json
IsMemberJson Binary bytes json = json ≡ base64_string bytes
IsMemberJson _ bytes json = json ≡ base64_object bytes

-- a name as JSON: a string, or an object with its Base64 if it isn't UTF-8
abbrev pub utf8_json : List ℕ → List ℕ
utf8_json bytes = if is_utf8 bytes then json_string bytes else base64_object bytes

-- some JSON was appended
pub record Appends (IsJson : List ℕ → Type 0) (old new : List ℕ) : Type 0 where
  pub json : List ℕ
  pub is_json : IsJson json
  pub appended : new ≡ old ++ json
