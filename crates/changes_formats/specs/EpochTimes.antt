-- Dates and times since 1970. Debezium has them by default as numbers: days, milliseconds and microseconds since 1970 (io.debezium.time.Date, Timestamp and MicroTimestamp), the microseconds of a TIME (MicroTime), and a TIMESTAMP in UTC as in ISO 8601 (ZonedTimestamp).
use Rattle.std.specs.Prelude.{◌≡◌, ◌⊎◌, ◌≤◌, ◌<◌, ℕ, ◌+◌, ◌*◌, ℤ, pos, ◌-ℤ◌, int_div, Bool, List, [], ◌∷◌, ◌++◌, codes, ◌==◌, ◌&&◌, not, nat_lt, if◌then◌else◌}
use Rattle.std.specs.Fmt.{decimal, sign_text, signed_decimal}
use Rattle.feed_writers.specs.TimesOfDay.{day_text}
use Rattle.feed_writers.specs.declared.times.Clock.{Clock}
use Rattle.feed_writers.specs.declared.times.Day.{Day}
use Rattle.changes_writers.specs.CivilDates.{IsDate, IsTimeOfDay, day_number, days_before_year, second_number}
use Rattle.changes_writers.specs.TimeStrings.{datetime_json, time_digits}

-- a date of the calendar whose year has at most four digits
pub record IsOfCalendar (d : Day) : Type 0 where
  pub date : IsDate d
  pub year : d.year ≤ 9999

-- such a date and a time of day
pub record IsInstant (d : Day) (c : Clock) : Type 0 where
  pub day : IsOfCalendar d
  pub time : IsTimeOfDay c
  pub micros : c.micros < 1000000

-- the days from 1970 to a date
abbrev pub days_from_1970 : Day → ℤ
days_from_1970 d = pos (day_number d) -ℤ pos (days_before_year 1970)

-- the microseconds from 1970 to a date and a time
abbrev pub micros_from_1970 : Day → Clock → ℤ
micros_from_1970 d c = pos (1000000 * second_number d c + c.micros) -ℤ pos (1000000 * (86400 * days_before_year 1970))

-- the microseconds of a time span
abbrev pub span_micros : Clock → ℕ
span_micros c = 3600000000 * c.hour + 60000000 * c.minute + 1000000 * c.second + c.micros

-- what is in place of a date that the calendar doesn't have: null, or 1970 if the column may not be null
abbrev pub no_date : Bool → List ℕ → List ℕ
no_date may_be_null first = if may_be_null then codes "null" else first

-- a DATE
abbrev pub IsDaysText : Bool → Day → List ℕ → Type 0
IsDaysText may_be_null d text = (IsOfCalendar d × (text ≡ signed_decimal (days_from_1970 d))) ⊎ ((IsOfCalendar d → ⊥) × (text ≡ no_date may_be_null (codes "0")))

-- the microseconds, or the milliseconds if the column has at most three digits of the fraction
abbrev pub in_unit : ℕ → ℤ → ℤ
in_unit digits micros = if nat_lt 3 digits then micros else int_div micros (pos 1000)

-- a DATETIME
abbrev pub IsInstantText : Bool → ℕ → Day → Clock → List ℕ → Type 0
IsInstantText may_be_null digits d c text =
    (IsInstant d c × (text ≡ signed_decimal (in_unit digits (micros_from_1970 d c)))) ⊎ ((IsInstant d c → ⊥) × (text ≡ no_date may_be_null (codes "0")))

-- a TIME
abbrev pub span_text : Bool → Clock → List ℕ
span_text is_negative c = sign_text (is_negative && not (span_micros c == 0)) ++ decimal (span_micros c)

-- a date and a time in UTC
abbrev pub zoned : ℕ → Day → Clock → List ℕ
zoned digits d c = 34 ∷ (day_text d ++ 84 ∷ (time_digits digits c ++ 90 ∷ 34 ∷ []))

-- the date and the time of a number of seconds since 1970 and microseconds
pub record IsUtcOf (seconds micros : ℕ) (d : Day) (c : Clock) : Type 0 where
  pub date : IsDate d
  pub time : IsTimeOfDay c
  pub value : second_number d c ≡ 86400 * days_before_year 1970 + seconds
  pub micros_are : c.micros ≡ micros

-- a TIMESTAMP that isn't 0
pub record IsZoned (digits seconds micros : ℕ) (text : List ℕ) : Type 0 where
  pub day : Day
  pub clock : Clock
  pub is : IsUtcOf seconds micros day clock
  pub text_is : text ≡ zoned digits day clock

-- a TIMESTAMP; that of 0 is no date
abbrev pub IsZonedText : Bool → ℕ → ℕ → ℕ → List ℕ → Type 0
IsZonedText may_be_null digits seconds micros text =
    ((seconds + micros ≡ 0) × (text ≡ no_date may_be_null (codes "\"1970-01-01T00:00:00Z\""))) ⊎ ((0 < seconds + micros) × IsZoned digits seconds micros text)

-- a TIMESTAMP as Maxwell and Canal have it: that of 0 has the year, the month and the day 0
pub record IsUtcString (digits seconds micros : ℕ) (text : List ℕ) : Type 0 where
  pub day : Day
  pub clock : Clock
  pub is : IsUtcOf seconds micros day clock
  pub text_is : text ≡ datetime_json digits day clock

abbrev pub IsTimestampText : ℕ → ℕ → ℕ → List ℕ → Type 0
IsTimestampText digits seconds micros text =
    ((seconds + micros ≡ 0) × (text ≡ datetime_json digits (record { year = 0; month = 0; day = 0 }) (record { hour = 0; minute = 0; second = 0; micros = 0 })))
    ⊎ ((0 < seconds + micros) × IsUtcString digits seconds micros text)
