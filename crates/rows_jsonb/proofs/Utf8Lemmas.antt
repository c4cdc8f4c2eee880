-- Texts that are UTF-8.
use Rattle.std.proofs.Common.{◌≡◌, ℕ, List, Bool, true, false, refl}
use Rattle.std.proofs.lemmas.Str.{IsUtf8-from_is_utf8, is_utf8-from_IsUtf8}
use Rattle.std.specs.Str.{IsUtf8, is_utf8}
use Rattle.std.specs.declared.result.Result.TheVariants.{Ok, Err}
use Rattle.rows_jsonb.specs.JsonbValues.{malformed}
use Rattle.rows_jsonb.specs.DocumentTrees.{utf8}

pub utf8_is : (bs : List ℕ) → IsUtf8 bs → utf8 bs ≡ Ok bs
utf8_is bs h = rw (is_utf8-from_IsUtf8 bs h) refl

no_text : (bs : List ℕ) → (IsUtf8 bs → ⊥) → (b : Bool) → is_utf8 bs ≡ b → b ≡ false
no_text bs h true e = absurd (h (IsUtf8-from_is_utf8 bs e))
no_text bs h false e = refl

pub utf8_failed : (bs : List ℕ) → (IsUtf8 bs → ⊥) → utf8 bs ≡ Err malformed
utf8_failed bs h = rw (no_text bs h (is_utf8 bs) refl) refl
