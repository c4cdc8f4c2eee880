-- Numbers in SQL (MySQL Reference Manual, "Numeric Literals", "Bit-Value Literals").
use Rattle.std.specs.Prelude.{◌≡◌, ℕ, zero, suc, ◌+◌, ◌/◌, ◌%◌, ◌^◌, ◌-◌, ◌==◌, Bool, true, false, List, [], ◌∷◌, ◌++◌, map, Some, IsTrue, from_bits, codes}
use Rattle.std.specs.Fmt.{decimal}
use Rattle.std.specs.List.{range_with_len}
use Rattle.std.specs.Float.{binary32, binary64, float_is_finite}
use Rattle.std.specs.Float.Ieee.{Float}
use Rattle.ryu.specs.Parse.{parse_float}
use Rattle.ryu.specs.Plain.{IsPlainNumber, IsLaidOutNumber}

-- a finite float: a number that reads back as it in 8 bytes, with a point or an exponent
pub record IsNumberText (x : Float) (text : List ℕ) : Type 0 where
  pub finite : IsTrue (float_is_finite x)
  pub reads_back : parse_float binary64 text ≡ Some x
  pub number : IsPlainNumber text
  pub layout : IsLaidOutNumber 16 4 text

-- the zero with a minus, which isn't that of a number with a point alone
abbrev pub minus_zero : List ℕ
minus_zero = codes "-0e0"

-- a float, or the zero with a minus
abbrev pub IsFloatOrZero : Bool → Float → List ℕ → Type 0
IsFloatOrZero true x text = text ≡ minus_zero
IsFloatOrZero false x text = IsNumberText x text

-- a float of 8 bytes and one of 4 bytes, by its bits
abbrev pub IsDoubleText : ℕ → List ℕ → Type 0
IsDoubleText bits text = IsFloatOrZero (bits == 2 ^ 63) (from_bits binary64 bits) text

abbrev pub IsFloatText : ℕ → List ℕ → Type 0
IsFloatText bits text = IsFloatOrZero (bits == 2 ^ 31) (from_bits binary32 bits) text

-- the digit of bit i of a number
abbrev pub bit_digit : ℕ → ℕ → ℕ
bit_digit number i = 48 + number / 2 ^ i % 2

-- the lowest bits of a number, the highest of them first
abbrev pub bit_digits : ℕ → ℕ → List ℕ
bit_digits number count = map (λ k. bit_digit number (count - 1 - k)) (range_with_len 0 count)

-- a number of so many bits
abbrev pub bits_text : ℕ → ℕ → List ℕ
bits_text count number = codes "b'" ++ (bit_digits number count ++ 39 ∷ [])

-- the year of a byte that counts from 1900: 0 for 0
abbrev pub year_text : ℕ → List ℕ
year_text zero = decimal 0
year_text (suc y) = decimal (1900 + suc y)
