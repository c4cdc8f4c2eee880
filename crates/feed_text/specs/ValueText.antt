-- The text of the feed: values.
use Rattle.std.specs.Prelude.{ℕ, List, ◌∷◌, codes}
use Rattle.std.specs.Fmt.{decimal, signed_decimal}
use Rattle.std.specs.Int.{w32, w64, to_be_bytes}
use Rattle.hex.specs.Hex.{encode_lower}
use Rattle.rows_values.specs.declared.rows.value.Value.{Value}
use Rattle.rows_values.specs.declared.rows.value.Value.TheVariants.{NULL, Bytes, Int, UInt, Float, Double, Date, Time}
use Rattle.feed_writers.specs.Quoting.{quoted}
use Rattle.feed_text.specs.Times.{date_text, span_text}

-- the text of a FLOAT: `f` and its 32 bits in hexadecimal digits, the highest byte first
abbrev pub float_text : ℕ → List ℕ
float_text bits = 102 ∷ encode_lower (to_be_bytes w32 bits)

-- the text of a DOUBLE: `d` and its 64 bits in hexadecimal digits, the highest byte first
abbrev pub double_text : ℕ → List ℕ
double_text bits = 100 ∷ encode_lower (to_be_bytes w64 bits)

-- the text of a value: NULL, bytes in quotes, digits (after `u` if unsigned), the bits of a FLOAT or DOUBLE, a date, or a time
unfoldable pub value_text : Value → List ℕ
value_text NULL = codes "NULL"
value_text (Bytes bytes) = quoted bytes.items
value_text (Int z) = signed_decimal z
value_text (UInt n) = 117 ∷ decimal n
value_text (Float bits) = float_text bits
value_text (Double bits) = double_text bits
value_text (Date year month day hour minute second micros) =
    date_text (record { year = year; month = month; day = day }) (record { hour = hour; minute = minute; second = second; micros = micros })
value_text (Time negative days hours minutes seconds micros) =
    span_text negative days (record { hour = hours; minute = minutes; second = seconds; micros = micros })
