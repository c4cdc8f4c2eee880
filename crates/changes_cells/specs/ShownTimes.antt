-- Dates, times and instants in JSON lines, as MySQL shows them (Reference Manual, "Date and Time Literals", "Fractional Seconds in Time Values").
use Rattle.std.specs.Prelude.{◌≡◌, ℕ, zero, suc, ◌+◌, ◌-◌, ◌*◌, ◌%◌, ◌^◌, ◌==◌, Bool, ℤ, pos, negsuc, List, [], ◌∷◌, ◌++◌, nat_lt, if◌then◌else◌}
use Rattle.std.specs.Fmt.{sign_text, signed_decimal}
use Rattle.rows_values.specs.TimeTexts.{padded_decimal}
use Rattle.feed_writers.specs.TimesOfDay.{day_text}
use Rattle.feed_writers.specs.declared.times.Clock.{Clock}
use Rattle.feed_writers.specs.declared.times.Day.{Day}
use Rattle.changes_writers.specs.CivilDates.{IsDate, IsTimeOfDay, days_before_year, second_number}
use Rattle.changes_writers.specs.TimeStrings.{datetime_json, duration_json}

-- a text in quotes that needs no escape
abbrev pub in_quotes : List ℕ → List ℕ
in_quotes text = 34 ∷ text ++ 34 ∷ []

-- the digits of the fraction that are shown: those of the column; all six if the others aren't zeros
abbrev pub shown_digits : ℕ → ℕ → ℕ
shown_digits digits micros = if micros % 10 ^ (6 - digits) == 0 then digits else 6

-- `hh:mm:ss`, a point and a number
unfoldable pub time_and_number : Clock → ℤ → List ℕ
time_and_number c z = padded_decimal 2 c.hour ++ 58 ∷ padded_decimal 2 c.minute ++ 58 ∷ padded_decimal 2 c.second ++ 46 ∷ signed_decimal z

-- a date and a time
abbrev pub numbered_datetime : Day → Clock → ℤ → List ℕ
numbered_datetime d c z = in_quotes (day_text d ++ 32 ∷ time_and_number c z)

-- a date and a time, and the fraction; microseconds of a million or more are a number
unfoldable pub shown_datetime : ℕ → Day → Clock → List ℕ
shown_datetime digits d c = if nat_lt c.micros 1000000 then datetime_json (shown_digits digits c.micros) d c else numbered_datetime d c (pos c.micros)

-- a time of any number of hours, in the same way
unfoldable pub shown_duration : ℕ → Bool → Clock → List ℕ
shown_duration digits negative c =
    if nat_lt c.micros 1000000 then duration_json (shown_digits digits c.micros) negative c
    else in_quotes (sign_text negative ++ time_and_number c (pos c.micros))

-- a date and a time whose microseconds may be negative, as no server stores them: then they are a number
abbrev pub IsDatetimeWith : ℕ → Day → Clock → ℤ → List ℕ → Type 0
IsDatetimeWith digits d c (pos n) x = (c.micros ≡ n) × (x ≡ shown_datetime digits d c)
IsDatetimeWith digits d c (negsuc n) x = x ≡ numbered_datetime d c (negsuc n)

-- the date and the time in UTC of so many seconds since 1970, and microseconds
pub record IsUtc (digits seconds : ℕ) (micros : ℤ) (x : List ℕ) : Type 0 where
  pub day : Day
  pub clock : Clock
  pub date : IsDate day
  pub time : IsTimeOfDay clock
  pub value : second_number day clock ≡ 86400 * days_before_year 1970 + seconds
  pub text : IsDatetimeWith digits day clock micros x

-- `0000-00-00 00:00:00`
abbrev pub zero_datetime : ℕ → List ℕ
zero_datetime digits = shown_datetime digits (record { year = 0; month = 0; day = 0 }) (record { hour = 0; minute = 0; second = 0; micros = 0 })

-- a TIMESTAMP: all zero for 0 without a fraction
unfoldable pub IsInstant : ℕ → ℕ → ℤ → List ℕ → Type 0
IsInstant digits zero (pos zero) x = x ≡ zero_datetime digits
IsInstant digits zero (pos (suc n)) x = IsUtc digits 0 (pos (suc n)) x
IsInstant digits zero (negsuc n) x = IsUtc digits 0 (negsuc n) x
IsInstant digits (suc seconds) micros x = IsUtc digits (suc seconds) micros x
