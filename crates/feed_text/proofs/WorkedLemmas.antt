-- The worked date and time: its fields, and their text.
use Rattle.std.proofs.Common.{◌≡◌, ◌∷◌, [], codes, refl}
use Rattle.std.specs.Fmt.{digits}
use Rattle.std.specs.Int.{int_wrap}
use Rattle.rows_values.specs.PackedTimes.{fraction_len, datetime2}
use Rattle.rows_values.specs.Values.{date_value}
use Rattle.rows_values.specs.declared.rows.value.Value.TheVariants.{Date}
use Rattle.feed_writers.specs.TimesOfDay.{clock_text, day_text}
use Rattle.feed_text.specs.Times.{date_text}
use Rattle.feed_text.specs.ValueText.{value_text}
use Rattle.rows_values.specs.TimeTexts.{padded_decimal}

pub worked_date : date_value (datetime2 (fraction_len 0) (153 ∷ 131 ∷ 176 ∷ 144 ∷ 249 ∷ [])) ≡ Date 2009 9 24 9 3 57 0
unfolding int_wrap
worked_date = refl

pub worked_date_text : value_text (Date 2009 9 24 9 3 57 0) ≡ codes "2009-09-24T09:03:57.000000"
unfolding padded_decimal value_text digits date_text day_text clock_text
worked_date_text = refl
