-- Text of a character set as a string, and other bytes as an object of Base64.
use Rattle.std.proofs.Common.{◌≡◌, ℕ, List, refl, inl, inr}
use Rattle.std.specs.Prelude.{IsUtf8, IsAscii}
use Rattle.std.proofs.lemmas.Str.{IsUtf8-from_ascii}
use Rattle.changes_character_sets.specs.Texts.{IsTextOf}
use Rattle.changes_character_sets.specs.declared.character_set.CharacterSet.{CharacterSet}
use Rattle.changes_character_sets.specs.declared.character_set.CharacterSet.TheVariants.{Utf8}
use Rattle.changes_character_sets.proofs.TextLemmas.{text_of_utf8, utf8_of_text}
use Rattle.changes_writers.specs.JsonStrings.{json_string}
use Rattle.changes_writers.specs.Base64Texts.{base64_object}
use Rattle.changes_cells.specs.CellJson.{IsTextJson}

pub text_json : (s : CharacterSet) (b t : List ℕ) → IsTextOf s b t → IsTextJson s b (json_string t)
text_json s b t h = inl (t, h, refl)

pub no_text_json : (s : CharacterSet) (b : List ℕ) → ((t : List ℕ) → ¬ (IsTextOf s b t)) → IsTextJson s b (base64_object b)
no_text_json s b h = inr (h, refl)

pub utf8_json : (b : List ℕ) → IsUtf8 b → IsTextJson Utf8 b (json_string b)
utf8_json b u = text_json Utf8 b b (text_of_utf8 b u)

pub ascii_json : (b : List ℕ) → IsAscii b → IsTextJson Utf8 b (json_string b)
ascii_json b a = utf8_json b (IsUtf8-from_ascii b a)

pub no_utf8_json : (b : List ℕ) → ¬ (IsUtf8 b) → IsTextJson Utf8 b (base64_object b)
no_utf8_json b n = no_text_json Utf8 b (λ t h. n (utf8_of_text b t h))
