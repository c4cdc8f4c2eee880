-- Escaped bytes, one at a time.
use Rattle.std.proofs.Common.{◌≡◌, ◌<◌, ◌/◌, ◌%◌, slice_index, ℕ, List, false, [], ◌∷◌, ◌++◌, arith, append_assoc, ◌∙◌}
use Rattle.std.specs.Fmt.{digit_glyph}
use Rattle.feed_writers.specs.declared.escapes.TheConstants.{DIGITS}
use Rattle.feed_writers.specs.Quoting.{escape}

-- the digit in the table
pub glyph_at : (d : ℕ) → d < 16 → slice_index DIGITS d ≡ digit_glyph false d
glyph_at d h = grind arith

pub hex_is : (base one two : List ℕ) (b high low : ℕ) → b < 256 → high ≡ b / 16 → low ≡ b % 16 → one ≡ base ++ slice_index DIGITS high ∷ [] → two ≡ one ++ slice_index DIGITS low ∷ []
    → two ≡ base ++ digit_glyph false (b / 16) ∷ digit_glyph false (b % 16) ∷ []
hex_is base one two b high low h x y first second = second ∙ rw (first, x, y, glyph_at (b / 16) (omega (arith, h)), glyph_at (b % 16) (omega arith)) (simp append_assoc)

pub escaped_is : (base one two : List ℕ) (b : ℕ) → one ≡ base ++ 92 ∷ [] → two ≡ one ++ digit_glyph false (b / 16) ∷ digit_glyph false (b % 16) ∷ [] → two ≡ base ++ escape b
escaped_is base one two b first second = second ∙ rw first (simp append_assoc)
