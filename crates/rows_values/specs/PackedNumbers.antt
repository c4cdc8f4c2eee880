-- The numbers before and after the point of a decimal, from its packed bytes. Unpacked defines the decimal.
use Rattle.std.specs.Prelude.{◌≡◌, ◌≤◌, ◌<◌, ◌-◌, ◌^◌, ℕ, List, Option, Some, None}
use Rattle.rows_values.specs.Digits.{digits_in}
use Rattle.rows_values.specs.Decimals.{DecimalParts}
use Rattle.rows_values.specs.Unpacked.{unpacked}
use Rattle.rows_values.specs.declared.numbers.DecimalNumbers.{DecimalNumbers}

-- the digits are the `count` digits of n, which has no more
pub record IsNumber (digits : Option (List ℕ)) (count n : ℕ) : Type 0 where
  pub are : digits ≡ Some (digits_in count n)
  pub fits : n < 10 ^ count

-- the digits are those of the number, if there is one; else there are no digits
abbrev pub NumberOrNone : Option (List ℕ) → ℕ → Option ℕ → Type 0
NumberOrNone digits count (Some n) = IsNumber digits count n
NumberOrNone digits count None = digits ≡ None

-- the decimal of two numbers with so many digits
abbrev pub numbers_parts : ℕ → ℕ → DecimalNumbers → DecimalParts
numbers_parts before after n = record { negative = n.negative; before = digits_in before n.before; after = digits_in after n.after }

-- the bytes pack the decimal of the numbers, which have no more digits than it has
pub record PackNumbers (precision scale : ℕ) (bytes : List ℕ) (n : DecimalNumbers) : Type 0 where
  pub ordered : scale ≤ precision
  pub few_before : precision - scale ≤ 16
  pub few_after : scale ≤ 8
  pub is : unpacked precision scale bytes ≡ Some (numbers_parts (precision - scale) scale n)
  pub before_fits : n.before < 10 ^ (precision - scale)
  pub after_fits : n.after < 10 ^ scale

-- they do; or there are more than 16 digits before the point or 8 after it, or the bytes pack no decimal
abbrev pub NumbersOrNone : ℕ → ℕ → List ℕ → Option DecimalNumbers → Type 0
NumbersOrNone precision scale bytes (Some n) = PackNumbers precision scale bytes n
NumbersOrNone precision scale bytes None = precision - scale ≤ 16 → scale ≤ 8 → unpacked precision scale bytes ≡ None
