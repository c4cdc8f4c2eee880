-- The text of a character set, appended as a string.
use Rattle.std.proofs.Common.{◌≡◌, ℕ, List, ◌++◌, Ok, Err, refl}
use Rattle.std.specs.Prelude.{OnOk, Result}
use Rattle.changes_character_sets.specs.declared.character_set.CharacterSet.{CharacterSet}
use Rattle.changes_character_sets.specs.Texts.{IsTextOf}
use Rattle.changes_writers.specs.JsonStrings.{json_string}
use Rattle.changes_tables.specs.MemberTexts.{IsJsonIn, string, Appends}

pub appended_text : {E : Type 0} (r : Result (Unit {0}) E) (set : CharacterSet) (bytes old new text : List ℕ) → IsTextOf set bytes text → OnOk r (new ≡ old ++ json_string text) → OnOk r (Appends (IsJsonIn set bytes) old new)
appended_text (Ok u) set bytes old new text is e = record { json = json_string text; is_json = string text is refl; appended = e }
appended_text (Err x) set bytes old new text is e = tt
