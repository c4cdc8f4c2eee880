-- Floats as JSON (RFC 8259, section 6), in the layout of the crate `ryu`.
use Rattle.std.specs.Prelude.{◌≡◌, ℕ, List, ◌++◌, Some, IsTrue, IsFalse, from_bits}
use Rattle.std.specs.Float.{binary32, binary64, float_is_finite}
use Rattle.std.specs.Float.Ieee.{Float, Format}
use Rattle.ryu.specs.Parse.{parse_float}
use Rattle.ryu.specs.Plain.{IsPlainNumber, IsLaidOutNumber, word_of}
use Rattle.changes_writers.specs.JsonStrings.{json_string}

-- A finite float is a number that reads back as it. It has a point or an exponent; an exponent where more than `whole_digits` digits
-- would be before the point, or more than `leading_zeros` zeros after it. Other floats are the strings `"NaN"`, `"inf"` and `"-inf"`.
pub record IsFloatText (format : Format) (whole_digits leading_zeros : ℕ) (x : Float) (text : List ℕ) : Type 0 where
  pub reads_back : IsTrue (float_is_finite x) → parse_float format text ≡ Some x
  pub number : IsTrue (float_is_finite x) → IsPlainNumber text
  pub layout : IsTrue (float_is_finite x) → IsLaidOutNumber whole_digits leading_zeros text
  pub word : IsFalse (float_is_finite x) → text ≡ json_string (word_of x)

-- a float of 4 bytes, by its bits
abbrev pub IsFloatJson : ℕ → List ℕ → Type 0
IsFloatJson bits = IsFloatText binary32 13 5 (from_bits binary32 bits)

-- a float of 8 bytes, by its bits
abbrev pub IsDoubleJson : ℕ → List ℕ → Type 0
IsDoubleJson bits = IsFloatText binary64 16 4 (from_bits binary64 bits)

-- a text of this kind follows the old text
pub record AppendsSuch (IsText : List ℕ → Type 0) (old new : List ℕ) : Type 0 where
  pub text : List ℕ
  pub such : IsText text
  pub appended : new ≡ old ++ text
