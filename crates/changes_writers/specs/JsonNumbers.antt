-- Numbers of JSON (RFC 8259, section 6).
use Rattle.std.specs.Prelude.{◌≡◌, ℕ, ◌⊎◌, Bool, List, [], ◌∷◌, ◌++◌, length, slice_index}
use Rattle.std.specs.Fmt.{sign_text}
use Rattle.std.specs.Str.Parse.{IsNumeral}

-- `frac`: nothing, or a point and one digit or more
abbrev pub IsFraction : List ℕ → Type 0
IsFraction s = (s ≡ []) ⊎ ((digits : List ℕ) × IsNumeral 10 digits × (s ≡ 46 ∷ digits))

-- `exp`: nothing, or `e`, perhaps a minus, and one digit or more
abbrev pub IsExponent : List ℕ → Type 0
IsExponent s = (s ≡ []) ⊎ ((negative : Bool) × (digits : List ℕ) × IsNumeral 10 digits × (s ≡ 101 ∷ (sign_text negative ++ digits)))

-- `number`: perhaps a minus, one digit or more without a zero before another digit, and then those
pub record IsJsonNumber (text : List ℕ) : Type 0 where
  pub negative : Bool
  pub whole : List ℕ
  pub fraction : List ℕ
  pub exponent : List ℕ
  pub is : text ≡ sign_text negative ++ (whole ++ (fraction ++ exponent))
  pub whole_is : IsNumeral 10 whole
  pub no_leading_zero : slice_index whole 0 ≡ 48 → length whole ≡ 1
  pub fraction_is : IsFraction fraction
  pub exponent_is : IsExponent exponent
