-- Text of UTF-8, or an object of its bytes.
use Rattle.std.proofs.Common.{◌≡◌, ℕ, Bool, true, false, List, refl, IsUtf8}
use Rattle.std.specs.Str.{is_utf8}
use Rattle.std.proofs.lemmas.Str.{IsUtf8-from_is_utf8}
use Rattle.changes_writers.specs.Base64Texts.{base64_object}
use Rattle.changes_tables.specs.MemberTexts.{utf8_json}

refuted_by : (b : List ℕ) (t : Bool) → (t ≡ true → IsUtf8 b) → (IsUtf8 b → ⊥) → t ≡ false
refuted_by b true is isnt = absurd (isnt (is refl))
refuted_by b false is isnt = refl

-- other bytes are an object
pub not_utf8 : (b : List ℕ) → (IsUtf8 b → ⊥) → utf8_json b ≡ base64_object b
not_utf8 b isnt = rw (refuted_by b (is_utf8 b) (IsUtf8-from_is_utf8 b) isnt) refl
