-- Strings and keys of documents are UTF-8.
use Rattle.std.proofs.Common.{◌≡◌, ℕ, Bool, true, false, List, refl}
use Rattle.std.specs.Prelude.{Option, Some, None, IfSome, IfNone, MatchOption}
use Rattle.std.specs.Str.{is_utf8, IsUtf8, IsAscii}
use Rattle.std.proofs.lemmas.Str.{IsUtf8-from_ascii, is_utf8-from_IsUtf8, IsUtf8-from_is_utf8}

pub utf8_by_ascii : (r : Option ℕ) (b : List ℕ) → IfSome r (λ end. IsAscii b) → IfSome r (λ end. is_utf8 b ≡ true)
utf8_by_ascii None b h = tt
utf8_by_ascii (Some end) b h = is_utf8-from_IsUtf8 b (IsUtf8-from_ascii b h)

not_utf8 : (b : List ℕ) → ¬ (IsUtf8 b) → is_utf8 b ≡ false
not_utf8 b h = either (is_utf8 b) refl
  where
    either : (t : Bool) → is_utf8 b ≡ t → is_utf8 b ≡ false
    either true e = absurd (h (IsUtf8-from_is_utf8 b e))
    either false e = e

pub utf8_if_some : (r : Option ℕ) (b : List ℕ) → MatchOption r (¬ (IsUtf8 b)) (λ end. IsUtf8 b) → IfSome r (λ end. is_utf8 b ≡ true)
utf8_if_some None b h = tt
utf8_if_some (Some end) b h = is_utf8-from_IsUtf8 b h

pub not_utf8_if_none : (r : Option ℕ) (b : List ℕ) → MatchOption r (¬ (IsUtf8 b)) (λ end. IsUtf8 b) → IfNone r (is_utf8 b ≡ false)
not_utf8_if_none None b h = not_utf8 b h
not_utf8_if_none (Some end) b h = tt
