-- Strings and keys of documents.
use Rattle.std.proofs.Common.{◌≡◌, ℕ, Bool, true, false, List, [], ◌∷◌, ◌++◌, refl, ap, ◌∙◌, append_assoc}
use Rattle.std.specs.List.{flat_map}
use Rattle.std.specs.Prelude.{Option, Some, None, IfSome, IfNone, MatchOption}
use Rattle.std.specs.Str.{is_utf8, IsUtf8, IsAscii}
use Rattle.std.proofs.lemmas.Str.{IsUtf8-from_ascii, is_utf8-from_IsUtf8, IsUtf8-from_is_utf8}
use Rattle.changes_writers.specs.JsonStrings.{json_byte, json_string}

pub utf8_by_ascii : (r : Option ℕ) (b : List ℕ) → IfSome r (λ end. IsAscii b) → IfSome r (λ end. is_utf8 b ≡ true)
utf8_by_ascii None b h = tt
utf8_by_ascii (Some end) b h = is_utf8-from_IsUtf8 b (IsUtf8-from_ascii b h)

not_utf8 : (b : List ℕ) → ¬ (IsUtf8 b) → is_utf8 b ≡ false
not_utf8 b h = either (is_utf8 b) refl
  where
    either : (t : Bool) → is_utf8 b ≡ t → is_utf8 b ≡ false
    either true e = absurd (h (IsUtf8-from_is_utf8 b e))
    either false e = e

pub utf8_if_some : (r : Option ℕ) (b : List ℕ) → MatchOption r (¬ (IsUtf8 b)) (λ end. IsUtf8 b) → IfSome r (λ end. is_utf8 b ≡ true)
utf8_if_some None b h = tt
utf8_if_some (Some end) b h = is_utf8-from_IsUtf8 b h

pub not_utf8_if_none : (r : Option ℕ) (b : List ℕ) → MatchOption r (¬ (IsUtf8 b)) (λ end. IsUtf8 b) → IfNone r (is_utf8 b ≡ false)
not_utf8_if_none None b h = not_utf8 b h
not_utf8_if_none (Some end) b h = tt

pub refuted : (b : List ℕ) → ¬ (IsUtf8 b) → is_utf8 b ≡ false
refuted b h = not_utf8 b h

-- a quote, a `$`, a key's bytes and a quote were written
pub reserved_written : (base one two new key : List ℕ) → one ≡ base ++ (34 ∷ 36 ∷ []) → two ≡ one ++ flat_map json_byte key → new ≡ two ++ 34 ∷ [] → new ≡ base ++ json_string (36 ∷ key)
unfolding json_string
reserved_written base one two new key first second third =
    third
    ∙ ap (λ (t : List ℕ). t ++ 34 ∷ []) (second ∙ ap (λ (t : List ℕ). t ++ flat_map json_byte key) first)
    ∙ append_assoc (base ++ (34 ∷ 36 ∷ [])) (flat_map json_byte key) (34 ∷ [])
    ∙ append_assoc base (34 ∷ 36 ∷ []) (flat_map json_byte key ++ 34 ∷ [])
