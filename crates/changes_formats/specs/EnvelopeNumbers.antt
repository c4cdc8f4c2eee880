-- Numbers in the lines of Maxwell, Debezium and Canal, which has them as strings.
use Rattle.std.specs.Prelude.{◌≡◌, ℕ, List, [], ◌∷◌, ◌++◌}
use Rattle.std.specs.Int.{cast_signed, w64}
use Rattle.std.specs.Fmt.{decimal, signed_decimal}
use Rattle.changes_commands.specs.declared.format_options.Format.{Format}
use Rattle.changes_commands.specs.declared.format_options.Format.TheVariants.{Maxwell, Debezium, Canal}

-- a number by its digits
abbrev pub number_in : Format → List ℕ → List ℕ
number_in Maxwell digits = digits
number_in Debezium digits = digits
number_in Canal digits = 34 ∷ digits ++ 34 ∷ []

-- an unsigned integer: Debezium has the signed integer with the same 64 bits (`bigint.unsigned.handling.mode=long`)
abbrev pub unsigned_in : Format → ℕ → List ℕ
unsigned_in Maxwell n = decimal n
unsigned_in Debezium n = signed_decimal (cast_signed w64 n)
unsigned_in Canal n = 34 ∷ decimal n ++ 34 ∷ []

-- a number with digits of this kind follows the old text
pub record AppendsNumber (format : Format) (AreDigits : List ℕ → Type 0) (old new : List ℕ) : Type 0 where
  pub digits : List ℕ
  pub are : AreDigits digits
  pub appended : new ≡ old ++ number_in format digits
