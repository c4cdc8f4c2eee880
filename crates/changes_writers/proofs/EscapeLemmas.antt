-- The bytes of a JSON string, one at a time.
use Rattle.std.proofs.Common.{◌≡◌, ◌<◌, ◌/◌, ◌%◌, slice_index, ℕ, List, false, [], ◌∷◌, ◌++◌, arith, append_assoc, ◌∙◌}
use Rattle.std.specs.Fmt.{digit_glyph}
use Rattle.changes_writers.specs.declared.escapes.TheConstants.{DIGITS}
use Rattle.changes_writers.specs.JsonStrings.{code_digits}

-- the digit in the table
glyph_at : (d : ℕ) → d < 16 → slice_index DIGITS d ≡ digit_glyph false d
glyph_at d h = grind arith

pub code_is : (base one two three four : List ℕ) (b high low : ℕ) → b < 256 → high ≡ b / 16 → low ≡ b % 16 → one ≡ base ++ 48 ∷ [] → two ≡ one ++ 48 ∷ [] → three ≡ two ++ slice_index DIGITS high ∷ []
    → four ≡ three ++ slice_index DIGITS low ∷ [] → four ≡ base ++ code_digits b
code_is base one two three four b high low h x y first second third is =
    is ∙ rw (third, second, first, x, y, glyph_at (b / 16) (omega (arith, h)), glyph_at (b % 16) (omega arith)) (simp append_assoc)
