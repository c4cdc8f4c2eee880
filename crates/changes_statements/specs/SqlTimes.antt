-- Dates and times in SQL, with a fraction if it isn't zero (MySQL Reference Manual, "Date and Time Literals").
use Rattle.std.specs.Prelude.{◌≡◌, ℕ, zero, suc, ◌+◌, ◌*◌, ◌==◌, Bool, List, [], ◌∷◌, ◌++◌, codes, if◌then◌else◌}
use Rattle.std.specs.Fmt.{sign_text}
use Rattle.rows_values.specs.TimeTexts.{padded_decimal}
use Rattle.feed_writers.specs.TimesOfDay.{day_text}
use Rattle.feed_writers.specs.declared.times.Clock.{Clock}
use Rattle.feed_writers.specs.declared.times.Day.{Day}
use Rattle.changes_writers.specs.CivilDates.{IsDate, IsTimeOfDay, days_before_year, second_number}

-- a point and six digits, if there are microseconds
abbrev pub fraction : ℕ → List ℕ
fraction micros = if micros == 0 then [] else 46 ∷ padded_decimal 6 micros

-- `hh:mm:ss`, and the fraction
unfoldable pub time_of_day : Clock → List ℕ
time_of_day c = padded_decimal 2 c.hour ++ 58 ∷ padded_decimal 2 c.minute ++ 58 ∷ padded_decimal 2 c.second ++ fraction c.micros

-- a text in quotes that has none
abbrev pub quoted : List ℕ → List ℕ
quoted text = 39 ∷ text ++ 39 ∷ []

-- a date, a date and a time, and a time that may be negative
abbrev pub date_text : Day → List ℕ
date_text d = quoted (day_text d)

abbrev pub datetime_text : Day → Clock → List ℕ
datetime_text d c = quoted (day_text d ++ 32 ∷ time_of_day c)

abbrev pub duration_text : Bool → Clock → List ℕ
duration_text negative c = quoted (sign_text negative ++ time_of_day c)

-- the date and the time in UTC of so many seconds since 1970, and microseconds
pub record IsUtcText (seconds micros : ℕ) (x : List ℕ) : Type 0 where
  pub day : Day
  pub clock : Clock
  pub date : IsDate day
  pub time : IsTimeOfDay clock
  pub micros_are : clock.micros ≡ micros
  pub value : second_number day clock ≡ 86400 * days_before_year 1970 + seconds
  pub text : x ≡ datetime_text day clock

-- the same; all zero for 0
abbrev pub IsInstantText : ℕ → ℕ → List ℕ → Type 0
IsInstantText zero zero x = x ≡ codes "'0000-00-00 00:00:00'"
IsInstantText zero (suc micros) x = IsUtcText zero (suc micros) x
IsInstantText (suc seconds) micros x = IsUtcText (suc seconds) micros x
