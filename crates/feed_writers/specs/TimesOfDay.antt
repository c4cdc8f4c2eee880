-- The text of dates and times of day: numbers with minimum widths.
use Rattle.std.specs.Prelude.{ℕ, List, ◌∷◌, ◌++◌}
use Rattle.rows_values.specs.TimeTexts.{padded_decimal}
use Rattle.feed_writers.specs.declared.times.Clock.{Clock}
use Rattle.feed_writers.specs.declared.times.Day.{Day}

-- `hh:mm:ss.uuuuuu`, each number with at least so many digits
unfoldable pub clock_text : Clock → List ℕ
clock_text c = padded_decimal 2 c.hour ++ 58 ∷ padded_decimal 2 c.minute ++ 58 ∷ padded_decimal 2 c.second ++ 46 ∷ padded_decimal 6 c.micros

-- `YYYY-MM-DD`, each number with at least so many digits
unfoldable pub day_text : Day → List ℕ
day_text d = padded_decimal 4 d.year ++ 45 ∷ padded_decimal 2 d.month ++ 45 ∷ padded_decimal 2 d.day
