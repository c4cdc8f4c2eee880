-- The text of dates, times of day and time spans, as MySQL prints them.
use Rattle.std.specs.Prelude.{ℕ, ◌-◌, ◌/◌, ◌%◌, Bool, not, ◌&&◌, ◌==◌, List, [], ◌∷◌, ◌++◌, Option, Some, None, take, length, replicate, nat_lt, if◌then◌else◌, codes, ℤ, pos, int_lt, unsigned_abs}
use Rattle.std.specs.Fmt.{decimal}
use Rattle.rows_values.specs.declared.times.mysql_time.MysqlTime.{MysqlTime}
use Rattle.rows_values.specs.declared.times.mysql_time.MysqlTimestampType.{MysqlTimestampType}
use Rattle.rows_values.specs.declared.times.mysql_time.MysqlTimestampType.TheVariants.{MYSQL_TIMESTAMP_NONE, MYSQL_TIMESTAMP_ERROR, MYSQL_TIMESTAMP_DATE, MYSQL_TIMESTAMP_DATETIME, MYSQL_TIMESTAMP_TIME, MYSQL_TIMESTAMP_DATETIME_TZ}

-- a number in decimal, with leading zeros up to `width` digits
unfoldable pub padded_decimal : ℕ → ℕ → List ℕ
padded_decimal width n = replicate (width - length (decimal n)) 48 ++ decimal n

-- the two digits of a part; a part with more digits is 00
unfoldable pub two_digits : ℕ → List ℕ
two_digits n = if nat_lt n 100 then padded_decimal 2 n else codes "00"

-- with a precision, a point and that many of the six digits of the microseconds
unfoldable pub micros_text : Option ℕ → ℕ → List ℕ
micros_text None n = []
micros_text (Some p) n = if p == 0 then [] else 46 ∷ take p (padded_decimal 6 (n % 1000000))

-- century and year, month and day
unfoldable pub date_text : MysqlTime → List ℕ
date_text t = two_digits (t.year / 100) ++ two_digits (t.year % 100) ++ 45 ∷ two_digits t.month ++ 45 ∷ two_digits t.day

-- minutes, seconds and their fraction
unfoldable pub after_hour : Option ℕ → MysqlTime → List ℕ
after_hour precision t = 58 ∷ two_digits t.minute ++ 58 ∷ two_digits t.second ++ micros_text precision t.second_part

-- a date and a time of day
unfoldable pub date_and_time_text : Option ℕ → MysqlTime → List ℕ
date_and_time_text precision t = date_text t ++ 32 ∷ two_digits t.hour ++ after_hour precision t

-- a time span: its hours have all their digits
unfoldable pub span_text : Option ℕ → MysqlTime → List ℕ
span_text precision t = (if t.neg then 45 ∷ [] else []) ++ padded_decimal 2 t.hour ++ after_hour precision t

-- hours in a width of two, which includes a minus
unfoldable pub zone_hours : Bool → ℕ → List ℕ
zone_hours negative hours = if negative && not (hours == 0) then 45 ∷ decimal hours else padded_decimal 2 hours

-- a plus, the hours rounded toward zero, and the minutes of the magnitude
unfoldable pub zone_text : ℤ → List ℕ
zone_text seconds = 43 ∷ zone_hours (int_lt seconds (pos 0)) (unsigned_abs seconds / 3600) ++ 58 ∷ two_digits (unsigned_abs seconds / 60 % 60)

-- the text of a time with a precision
abbrev pub time_text : Option ℕ → MysqlTime → List ℕ
time_text precision t = text t.time_type
  where
    text : MysqlTimestampType → List ℕ
    text MYSQL_TIMESTAMP_NONE = []
    text MYSQL_TIMESTAMP_ERROR = []
    text MYSQL_TIMESTAMP_DATE = date_text t
    text MYSQL_TIMESTAMP_DATETIME = date_and_time_text precision t
    text MYSQL_TIMESTAMP_TIME = span_text precision t
    text MYSQL_TIMESTAMP_DATETIME_TZ = date_and_time_text precision t ++ zone_text t.time_zone_displacement
