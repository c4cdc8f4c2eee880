-- The fields of packed times: a time span, and a date and time (MySQL's source, mysys/my_time.cc, TIME_from_longlong_time_packed and TIME_from_longlong_datetime_packed; the crate, src/binlog/time.rs).
use Rattle.std.specs.Prelude.{ℕ, ◌/◌, ◌%◌, Bool, ℤ, pos, unsigned_abs, int_lt}
use Rattle.rows_values.specs.declared.times.mysql_time.MysqlTime.{MysqlTime}
use Rattle.rows_values.specs.declared.times.mysql_time.MysqlTimestampType.{MysqlTimestampType}
use Rattle.rows_values.specs.declared.times.mysql_time.MysqlTimestampType.TheVariants.{MYSQL_TIMESTAMP_TIME}

-- the microseconds: the lowest 24 bits of the magnitude
abbrev pub packed_micros : ℤ → ℕ
packed_micros packed = unsigned_abs packed % 16777216

-- the magnitude above its lowest 24 bits
abbrev pub packed_whole : ℤ → ℕ
packed_whole packed = unsigned_abs packed / 16777216

-- whether a packed time is negative
abbrev pub is_below_zero : ℤ → Bool
is_below_zero packed = int_lt packed (pos 0)

-- hours, minutes and seconds of a span: 10, 6 and 6 bits
abbrev pub span_fields : ℤ → MysqlTime
span_fields packed = record {
  year = 0;
  month = 0;
  day = 0;
  hour = packed_whole packed / 4096 % 1024;
  minute = packed_whole packed / 64 % 64;
  second = packed_whole packed % 64;
  second_part = packed_micros packed;
  neg = is_below_zero packed;
  time_type = MYSQL_TIMESTAMP_TIME;
  time_zone_displacement = pos 0;
}

-- year * 13 + month, then day (5 bits), hours (5), minutes (6) and seconds (6)
abbrev pub date_fields : MysqlTimestampType → ℤ → MysqlTime
date_fields kind packed = record {
  year = packed_whole packed / 131072 / 32 / 13;
  month = packed_whole packed / 131072 / 32 % 13;
  day = packed_whole packed / 131072 % 32;
  hour = packed_whole packed % 131072 / 4096;
  minute = packed_whole packed % 131072 / 64 % 64;
  second = packed_whole packed % 131072 % 64;
  second_part = packed_micros packed;
  neg = is_below_zero packed;
  time_type = kind;
  time_zone_displacement = pos 0;
}
