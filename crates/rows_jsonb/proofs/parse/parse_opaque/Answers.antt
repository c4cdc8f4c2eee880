use Rattle.std.proofs.Common.{rules, ◌≡◌, ◌≤◌, ℕ, ℤ, List, length, refl}
use Rattle.std.proofs.lemmas.Bool.{lt-ltb, le-ltb}
use Rattle.std.proofs.lemmas.Int.{to_z-of_z}
use mir.Syntax.{w64}
use Rattle.wire_buf.specs.Numbers.{little_signed}
use Rattle.rows_values.specs.declared.times.mysql_time.MysqlTime.{MysqlTime}
use Rattle.rows_values.specs.declared.times.mysql_time.MysqlTimestampType.TheVariants.{MYSQL_TIMESTAMP_DATE, MYSQL_TIMESTAMP_DATETIME}
use Rattle.rows_values.specs.TimeFields.{span_fields, date_fields}
use Rattle.rows_jsonb.specs.JsonTrees.{time}
use Rattle.rows_jsonb.specs.DocumentTrees.{leaf, time_in}
use Rattle.rows_jsonb.proofs.parse.parse_opaque.Goals as goal

time_read : (fields : ℤ → MysqlTime) (s : List ℕ) (packed given : ℤ) (t : MysqlTime) → 8 ≤ length s → packed ≡ little_signed 8 s → given ≡ packed → t ≡ fields given → time_in fields s ≡ leaf (time t)
time_read fields s packed given t room packed_is kept made = rw (le-ltb _ _ room, made, kept, packed_is) refl

pub returns-in-Some : goal.returns-in-Some
returns-in-Some c =
    let eats = c.in-Some.ensures.some in
    rw c.in-MYSQL_TYPE_DATE.is (time_read (date_fields MYSQL_TIMESTAMP_DATE) _ _ _ _ eats.room eats.value_is (to_z-of_z w64 c.in-Some.packed (search rules)) c.from_int64_date_packed.ensures)

pub returns-in-None : goal.returns-in-None
returns-in-None c = rw (c.in-MYSQL_TYPE_DATE.is, lt-ltb _ _ c.in-None.ensures.none.missing) refl

pub returns-in-Some-checked_eat_i64_le : goal.returns-in-Some-checked_eat_i64_le
returns-in-Some-checked_eat_i64_le c =
    let eats = c.in-Some-checked_eat_i64_le.ensures.some in
    rw c.in-MYSQL_TYPE_TIME.is (time_read span_fields _ _ _ _ eats.room eats.value_is (to_z-of_z w64 c.in-Some-checked_eat_i64_le.packed (search rules)) c.from_int64_time_packed.ensures)

pub returns-in-None-checked_eat_i64_le : goal.returns-in-None-checked_eat_i64_le
returns-in-None-checked_eat_i64_le c = rw (c.in-MYSQL_TYPE_TIME.is, lt-ltb _ _ c.in-None-checked_eat_i64_le.ensures.none.missing) refl

pub returns-in-Some-checked_eat_i64_le-2 : goal.returns-in-Some-checked_eat_i64_le-2
returns-in-Some-checked_eat_i64_le-2 c =
    let eats = c.in-Some-checked_eat_i64_le-2.ensures.some in
    rw c.in-MYSQL_TYPE_DATETIME.is (time_read (date_fields MYSQL_TIMESTAMP_DATETIME) _ _ _ _ eats.room eats.value_is (to_z-of_z w64 c.in-Some-checked_eat_i64_le-2.packed (search rules)) c.from_int64_datetime_packed.ensures)

pub returns-in-None-checked_eat_i64_le-2 : goal.returns-in-None-checked_eat_i64_le-2
returns-in-None-checked_eat_i64_le-2 c = rw (c.in-MYSQL_TYPE_DATETIME.is, lt-ltb _ _ c.in-None-checked_eat_i64_le-2.ensures.none.missing) refl

pub returns-in-Some-checked_eat_i64_le-3 : goal.returns-in-Some-checked_eat_i64_le-3
returns-in-Some-checked_eat_i64_le-3 c =
    let eats = c.in-Some-checked_eat_i64_le-3.ensures.some in
    rw c.in-MYSQL_TYPE_TIMESTAMP.is (time_read (date_fields MYSQL_TIMESTAMP_DATETIME) _ _ _ _ eats.room eats.value_is (to_z-of_z w64 c.in-Some-checked_eat_i64_le-3.packed (search rules)) c.from_int64_datetime_packed-in-Some-checked_eat_i64_le-3.ensures)

pub returns-in-None-checked_eat_i64_le-3 : goal.returns-in-None-checked_eat_i64_le-3
returns-in-None-checked_eat_i64_le-3 c = rw (c.in-MYSQL_TYPE_TIMESTAMP.is, lt-ltb _ _ c.in-None-checked_eat_i64_le-3.ensures.none.missing) refl
