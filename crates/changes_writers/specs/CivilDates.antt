-- Dates of the Gregorian calendar, as numbers of days, and dates with times in UTC, as numbers of seconds. A day has 86,400 seconds.
use Rattle.std.specs.Prelude.{ℕ, zero, suc, ◌+◌, ◌-◌, ◌*◌, ◌%◌, ◌≤◌, ◌<◌, ◌==◌, Bool, not, ◌&&◌, ◌||◌, List, [], ◌∷◌, take, slice_index, if◌then◌else◌}
use Rattle.std.specs.List.{sum}
use Rattle.feed_writers.specs.declared.times.Clock.{Clock}
use Rattle.feed_writers.specs.declared.times.Day.{Day}

-- each fourth year, but of the full centuries only each fourth
unfoldable pub is_leap : ℕ → Bool
is_leap y = y % 4 == 0 && (not (y % 100 == 0) || y % 400 == 0)

-- the days of the months of a year
unfoldable pub month_lengths : ℕ → List ℕ
month_lengths y = 31 ∷ (if is_leap y then 29 else 28) ∷ 31 ∷ 30 ∷ 31 ∷ 30 ∷ 31 ∷ 31 ∷ 30 ∷ 31 ∷ 30 ∷ 31 ∷ []

-- the days before a year, from the year 0 on
unfoldable pub days_before_year : ℕ → ℕ
days_before_year zero = 0
days_before_year (suc y) = days_before_year y + (if is_leap y then 366 else 365)

-- the days before a date, from the first of January of the year 0 on
unfoldable pub day_number : Day → ℕ
day_number d = days_before_year d.year + (sum (take (d.month - 1) (month_lengths d.year)) + (d.day - 1))

-- a date of the calendar
pub record IsDate (d : Day) : Type 0 where
  pub month : (1 ≤ d.month) × (d.month ≤ 12)
  pub day : (1 ≤ d.day) × (d.day ≤ slice_index (month_lengths d.year) (d.month - 1))

-- a time of day
pub record IsTimeOfDay (c : Clock) : Type 0 where
  pub hour : c.hour < 24
  pub minute : c.minute < 60
  pub second : c.second < 60

-- the seconds before a date and a time in UTC, from the start of the year 0 on
unfoldable pub second_number : Day → Clock → ℕ
second_number d c = 86400 * day_number d + (3600 * c.hour + 60 * c.minute + c.second)
