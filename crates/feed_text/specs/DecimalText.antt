-- The text of the feed: decimals in MySQL's packed format (decimal2bin).
use Rattle.std.specs.Prelude.{◌≡◌, ◌⊎◌, ℕ, List, [], ◌∷◌, ◌++◌, ◌||◌, ◌&&◌, nat_lt, nat_eq, take, if◌then◌else◌, Option, Some, None}
use Rattle.std.specs.Fmt.{decimal}
use Rattle.std.specs.Option.{option_map}
use Rattle.rows_errors.specs.declared.fault.RowsError.{RowsError}
use Rattle.rows_errors.specs.declared.fault.RowsError.TheVariants.{Memory, Decimal}
use Rattle.rows_values.specs.PrintedDecimals.{sign_text}
use Rattle.rows_values.specs.PackedTexts.{Puts}
use Rattle.rows_values.specs.Unpacked.{packed_text}
use Rattle.rows_values.specs.declared.numbers.DecimalNumbers.{DecimalNumbers}
use Rattle.rows_values.specs.TimeTexts.{padded_decimal}
use Rattle.feed_writers.specs.Quoting.{quoted}

-- the quoted text of a packed decimal, if the bytes are one
abbrev pub quoted_decimal : ℕ → ℕ → List ℕ → Option (List ℕ)
quoted_decimal precision scale bytes = option_map quoted (packed_text precision scale bytes)

-- there is such a text, and it was appended
abbrev pub AppendsSome : Option (List ℕ) → List ℕ → List ℕ → Type 0
AppendsSome None old new = ⊥
AppendsSome (Some text) old new = new ≡ old ++ text

-- out of memory, or there is no such text; nothing was appended
pub record IsDecimalError (e : RowsError) (text : Option (List ℕ)) (old new : List ℕ) : Type 0 where
  pub cause : (e ≡ Memory) ⊎ ((e ≡ Decimal) × (text ≡ None))
  pub unchanged : new ≡ old

-- the text was written, up to the offset; or the text before `at` is unchanged, and nothing more is stated
abbrev pub PutsShort : Option (List ℕ) → ℕ → List ℕ → List ℕ → Option ℕ → Type 0
PutsShort piece at old new (Some end) = Puts piece 76 at old new end
PutsShort piece at old new None = take at new ≡ take at old

-- the sign of two numbers: a zero without digits after the point has none
abbrev pub numbers_sign : ℕ → DecimalNumbers → List ℕ
numbers_sign scale n = sign_text (n.negative && (nat_lt 0 scale || nat_lt 0 n.before))

-- a point and n digits, if n isn't 0
abbrev pub micros_places_text : ℕ → ℕ → List ℕ
micros_places_text scale n = if nat_eq scale 0 then [] else 46 ∷ padded_decimal scale n

-- the sign, the number before the point, and the one after it with `scale` digits
abbrev pub numbers_text : ℕ → DecimalNumbers → List ℕ
numbers_text scale n = numbers_sign scale n ++ (decimal n.before ++ micros_places_text scale n.after)
