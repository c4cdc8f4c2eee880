-- The definitions that are unfolded to compute examples.
use Rattle.std.specs.Prelude.{⊤}
use Rattle.rows_values.specs.Digits.{nines_bytes, before_bytes, after_bytes, digits_in}
use Rattle.rows_values.specs.Decimals.{without_zero_nines}
use Rattle.rows_values.specs.PrintedDecimals.{text_value, from_digit_texts, has_only_digits}
use Rattle.rows_values.specs.Unpacked.{unpacked, nines_digits}

unfoldable pub computed : ⊤
unfolding nines_bytes before_bytes after_bytes digits_in without_zero_nines text_value from_digit_texts has_only_digits unpacked nines_digits
computed = tt
