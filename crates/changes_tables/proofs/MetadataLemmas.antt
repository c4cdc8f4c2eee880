-- Entries that can be read, and fields that are added one after the other.
use Rattle.std.proofs.Common.{◌≡◌, ℕ, Bool, true, false, List, [], ◌∷◌, Option, Some, None, Ok, Err, refl, IsUtf8}
use Rattle.std.specs.Str.{is_utf8}
use Rattle.std.proofs.lemmas.Str.{IsUtf8-from_is_utf8, is_utf8-from_IsUtf8}
use Rattle.rows_errors.specs.Readings.{Reading}
use Rattle.rows_table_map.specs.MetadataFields.{Field}
use Rattle.changes_tables.specs.UsedMetadata.{UsedMetadata, readable, or_else, last_some, names_in, key_in, texts_in, members_in, enums_in, sets_in, used}
use Rattle.changes_writers.specs.JsonStrings.{json_string}
use Rattle.changes_writers.specs.Base64Texts.{base64_object}
use Rattle.changes_tables.specs.MemberTexts.{utf8_json}
use Rattle.changes_tables.specs.FieldViews.{with_field, with_read}

refuted-by : (b : List ℕ) (t : Bool) → (t ≡ true → IsUtf8 b) → (IsUtf8 b → ⊥) → t ≡ false
refuted-by b true h is_not = absurd (is_not (h refl))
refuted-by b false h is_not = refl

pub refuted : (b : List ℕ) → (IsUtf8 b → ⊥) → is_utf8 b ≡ false
refuted b is_not = refuted-by b (is_utf8 b) (IsUtf8-from_is_utf8 b) is_not

or-none : {A : Type 0} (o : Option A) → or_else o None ≡ o
or-none (Some x) = refl
or-none None = refl

or-assoc : {A : Type 0} (a b c : Option A) → or_else (or_else a b) c ≡ or_else a (or_else b c)
or-assoc (Some x) b c = refl
or-assoc None b c = refl

-- the fields so far, and then these fields
abbrev pub later : UsedMetadata → List Field → UsedMetadata
later u fs = record {
  names = or_else (last_some names_in fs) u.names;
  key = or_else (last_some key_in fs) u.key;
  texts = or_else (last_some texts_in fs) u.texts;
  members = or_else (last_some members_in fs) u.members;
  enums = or_else (last_some enums_in fs) u.enums;
  sets = or_else (last_some sets_in fs) u.sets;
}

pub later-none : (fs : List Field) → later (used []) fs ≡ used fs
later-none fs =
    rw (or-none (last_some names_in fs), or-none (last_some key_in fs), or-none (last_some texts_in fs), or-none (last_some members_in fs), or-none (last_some enums_in fs), or-none (last_some sets_in fs)) refl

later-more : (u : UsedMetadata) (f : Field) (fs : List Field) → later u (f ∷ fs) ≡ later (with_field u f) fs
later-more u f fs =
    rw (or-assoc (last_some names_in fs) (names_in f) u.names, or-assoc (last_some key_in fs) (key_in f) u.key, or-assoc (last_some texts_in fs) (texts_in f) u.texts, or-assoc (last_some members_in fs) (members_in f) u.members, or-assoc (last_some enums_in fs) (enums_in f) u.enums, or-assoc (last_some sets_in fs) (sets_in f) u.sets) refl

pub later-read : (u : UsedMetadata) (r : Reading Field) (rs : List (Reading Field)) → later u (readable (r ∷ rs)) ≡ later (with_read u r) (readable rs)
later-read u (Ok f) rs = later-more u f (readable rs)
later-read u (Err e) rs = refl

-- a name that is UTF-8, and one that isn't
pub utf8_shown : (b : List ℕ) → IsUtf8 b → utf8_json b ≡ json_string b
utf8_shown b is = rw (is_utf8-from_IsUtf8 b is) refl

pub not_utf8_shown : (b : List ℕ) → (IsUtf8 b → ⊥) → utf8_json b ≡ base64_object b
not_utf8_shown b is_not = rw (refuted b is_not) refl
