-- The values of cells: which are the same, and the values of packed times.
use Rattle.std.specs.Prelude.{◌≡◌, ◌/◌, ◌%◌, ℤ}
use Rattle.rows_values.specs.declared.rows.value.Value.{Value}
use Rattle.rows_values.specs.declared.rows.value.Value.TheVariants.{Bytes, Date, Time}
use Rattle.rows_values.specs.declared.times.mysql_time.MysqlTime.{MysqlTime}
use Rattle.rows_values.specs.declared.times.mysql_time.MysqlTimestampType.TheVariants.{MYSQL_TIMESTAMP_DATETIME}
use Rattle.rows_values.specs.TimeFields.{span_fields, date_fields}

-- the same value, wherever its bytes are stored
abbrev pub SameValue : Value → Value → Type 0
SameValue (Bytes a) (Bytes b) = a.items ≡ b.items
SameValue v w = v ≡ w

-- a time span as a value, with its hours split into days and hours
abbrev pub span_of : MysqlTime → Value
span_of t = Time t.neg (t.hour / 24) (t.hour % 24) t.minute t.second t.second_part

-- a date and time as a value, without a sign
abbrev pub date_of : MysqlTime → Value
date_of t = Date t.year t.month t.day t.hour t.minute t.second t.second_part

-- the values of packed times
abbrev pub span_value : ℤ → Value
span_value packed = span_of (span_fields packed)

abbrev pub date_value : ℤ → Value
date_value packed = date_of (date_fields MYSQL_TIMESTAMP_DATETIME packed)
