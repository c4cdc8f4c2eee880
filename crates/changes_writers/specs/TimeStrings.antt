-- Dates and times as JSON strings, as MySQL shows them (Reference Manual, "Date and Time Literals", "Fractional Seconds").
use Rattle.std.specs.Prelude.{ℕ, Bool, List, ◌∷◌, ◌++◌, Some}
use Rattle.std.specs.Fmt.{sign_text}
use Rattle.rows_values.specs.TimeTexts.{micros_text, padded_decimal}
use Rattle.feed_writers.specs.TimesOfDay.{day_text}
use Rattle.feed_writers.specs.declared.times.Clock.{Clock}
use Rattle.feed_writers.specs.declared.times.Day.{Day}
use Rattle.changes_writers.specs.JsonStrings.{json_string}

-- `hh:mm:ss`, each with at least two digits; a point and the first `digits` of six digits of the microseconds, if `digits` isn't 0
unfoldable pub time_digits : ℕ → Clock → List ℕ
time_digits digits c = padded_decimal 2 c.hour ++ 58 ∷ padded_decimal 2 c.minute ++ 58 ∷ padded_decimal 2 c.second ++ micros_text (Some digits) c.micros

-- `"YYYY-MM-DD"`
unfoldable pub date_json : Day → List ℕ
date_json d = json_string (day_text d)

-- `"YYYY-MM-DD hh:mm:ss.ffffff"`
unfoldable pub datetime_json : ℕ → Day → Clock → List ℕ
datetime_json digits d c = json_string (day_text d ++ 32 ∷ time_digits digits c)

-- `"hh:mm:ss.ffffff"`, perhaps after a minus
unfoldable pub duration_json : ℕ → Bool → Clock → List ℕ
duration_json digits negative c = json_string (sign_text negative ++ time_digits digits c)
