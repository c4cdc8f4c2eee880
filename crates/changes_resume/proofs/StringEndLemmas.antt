-- Strings are read in one way.
use Rattle.std.proofs.Common.{◌≡◌, ◌≢◌, ℕ, List, [], ◌∷◌, ◌++◌, refl, sym, ap, ◌∙◌, append_assoc, arith}
use Rattle.std.specs.List.{flat_map}
use Rattle.std.proofs.lemmas.List.{append-nil}
use Rattle.std.proofs.lemmas.List.Concat.{flat_map-append}
use Rattle.std.proofs.lemmas.Bool.Decides.{nat_tests}
use Rattle.changes_writers.specs.JsonStrings.{json_byte}

byte_read : (x y : ℕ) (s t : List ℕ) → json_byte x ++ s ≡ json_byte y ++ t → s ≡ t
byte_read x y s t e = grind (arith, nat_tests)

no_quote : (x : ℕ) (s t : List ℕ) → json_byte x ++ s ≡ 34 ∷ t → ⊥
no_quote x s t e = grind (arith, nat_tests)

-- a content was read, and after it neither a byte's text nor a quote comes
pub no_string : (read file rest after text : List ℕ) → flat_map json_byte read ++ rest ≡ text → ((b : ℕ) (more : List ℕ) → rest ≢ json_byte b ++ more) → ((more : List ℕ) → rest ≢ 34 ∷ more)
    → text ≢ flat_map json_byte file ++ 34 ∷ after
no_string [] [] rest after text e byte quote h = quote after (e ∙ h)
no_string [] (f ∷ file) rest after text e byte quote h = byte f (flat_map json_byte file ++ 34 ∷ after) (e ∙ h ∙ append_assoc (json_byte f) (flat_map json_byte file) (34 ∷ after))
no_string (x ∷ read) [] rest after text e byte quote h =
    no_quote x (flat_map json_byte read ++ rest) after (sym (append_assoc (json_byte x) (flat_map json_byte read) rest) ∙ e ∙ h)
no_string (x ∷ read) (f ∷ file) rest after text e byte quote h =
    no_string read file rest after (flat_map json_byte read ++ rest) refl byte quote
    (byte_read x f (flat_map json_byte read ++ rest) (flat_map json_byte file ++ 34 ∷ after)
    (sym (append_assoc (json_byte x) (flat_map json_byte read) rest) ∙ e ∙ h ∙ append_assoc (json_byte f) (flat_map json_byte file) (34 ∷ after)))

-- one more byte
pub one_read : (read : List ℕ) (b : ℕ) (rest after text : List ℕ) → flat_map json_byte read ++ rest ≡ text → rest ≡ json_byte b ++ after → flat_map json_byte (read ++ b ∷ []) ++ after ≡ text
one_read read b rest after text e h =
    ap (λ x. x ++ after) (flat_map-append json_byte read (b ∷ []) ∙ ap (λ x. flat_map json_byte read ++ x) (append-nil (json_byte b)))
    ∙ append_assoc (flat_map json_byte read) (json_byte b) after ∙ ap (λ x. flat_map json_byte read ++ x) (sym h) ∙ e
