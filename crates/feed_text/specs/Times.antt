-- The text of the feed: dates with their time of day, and times.
use Rattle.std.specs.Prelude.{ℕ, Bool, List, ◌∷◌, ◌++◌}
use Rattle.std.specs.Fmt.{decimal}
use Rattle.rows_values.specs.PrintedDecimals.{sign_text}
use Rattle.feed_writers.specs.declared.times.Clock.{Clock}
use Rattle.feed_writers.specs.declared.times.Day.{Day}
use Rattle.feed_writers.specs.TimesOfDay.{clock_text, day_text}

-- a date, `T` and a time of day
unfoldable pub date_text : Day → Clock → List ℕ
date_text day clock = day_text day ++ 84 ∷ clock_text clock

-- `-` if negative, the days, `d`, and `hh:mm:ss.uuuuuu`
unfoldable pub span_text : Bool → ℕ → Clock → List ℕ
span_text negative days clock = sign_text negative ++ (decimal days ++ 100 ∷ clock_text clock)
