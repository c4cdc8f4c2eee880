-- Packed times from their fields: which bits of the number each field has.
use Rattle.std.specs.Prelude.{ℕ, ◌+◌, ◌*◌, ◌^◌, Bool, false, pos}
use Rattle.rows_values.specs.declared.times.mysql_time.MysqlTime.{MysqlTime}
use Rattle.rows_values.specs.declared.times.mysql_time.MysqlTimestampType.{MysqlTimestampType}
use Rattle.rows_values.specs.declared.times.mysql_time.MysqlTimestampType.TheVariants.{MYSQL_TIMESTAMP_TIME}

-- hours from bit 36 on, minutes from bit 30 on, seconds from bit 24 on, then the microseconds
abbrev pub span_number : ℕ → ℕ → ℕ → ℕ → ℕ
span_number hour minute second micros = hour * 2 ^ 36 + minute * 2 ^ 30 + second * 2 ^ 24 + micros

-- a time span of these fields
abbrev pub span_time : Bool → ℕ → ℕ → ℕ → ℕ → MysqlTime
span_time negative hour minute second micros = record {
  year = 0;
  month = 0;
  day = 0;
  hour = hour;
  minute = minute;
  second = second;
  second_part = micros;
  neg = negative;
  time_type = MYSQL_TIMESTAMP_TIME;
  time_zone_displacement = pos 0;
}

-- 13 times the year plus the month from bit 46 on, days from bit 41 on, then the time of day as in a time span
abbrev pub date_number : ℕ → ℕ → ℕ → ℕ → ℕ → ℕ → ℕ → ℕ
date_number year month day hour minute second micros = (year * 13 + month) * 2 ^ 46 + day * 2 ^ 41 + span_number hour minute second micros

-- a date and time of these fields
abbrev pub date_time : MysqlTimestampType → ℕ → ℕ → ℕ → ℕ → ℕ → ℕ → ℕ → MysqlTime
date_time kind year month day hour minute second micros = record {
  year = year;
  month = month;
  day = day;
  hour = hour;
  minute = minute;
  second = second;
  second_part = micros;
  neg = false;
  time_type = kind;
  time_zone_displacement = pos 0;
}
