-- The value of a cell's content (MySQL's source: `log_event_print_value` in `log_event.cc` prints the same formats).
use Rattle.std.specs.Prelude.{ℕ, ℤ, pos, ◌+◌, ◌/◌, ◌%◌, ◌^◌, ◌++◌, ◌∷◌, [], Bool, List, slice_index, Option, Some, None, if◌then◌else◌, int_lt, ◌==◌, unsigned_abs}
use Rattle.std.specs.declared.result.Result.TheVariants.{Ok, Err}
use Rattle.std.specs.Fmt.{decimal, signed_decimal}
use Rattle.byteorder.specs.Endian.{little_number}
use Rattle.wire_buf.specs.Numbers.{little_signed}
use Rattle.rows_values.specs.PackedTimes.{fraction_len, time2, datetime2, timestamp2}
use Rattle.rows_values.specs.TimeFields.{span_fields, date_fields}
use Rattle.rows_values.specs.TimeTexts.{padded_decimal}
use Rattle.rows_values.specs.declared.times.mysql_time.MysqlTimestampType.TheVariants.{MYSQL_TIMESTAMP_DATETIME}
use Rattle.rows_errors.specs.declared.fault.RowsError.{RowsError}
use Rattle.rows_errors.specs.declared.fault.RowsError.TheVariants.{Metadata, Cell, Decimal as BadDecimal}
use Rattle.rows_values.specs.Unpacked.{packed_text}
use Rattle.rows_jsonb.specs.JsonbValues.{document}
use Rattle.rows_errors.specs.Readings.{Reading, ◌>>=◌}
use Rattle.rows_jsonb.specs.Items.{items_at}
use Rattle.rows_jsonb.specs.JsonDiffs.{diff_at}
use Rattle.rows_cells.specs.declared.format.Width.TheVariants as width
use Rattle.rows_cells.specs.declared.format.CellFormat.{CellFormat}
use Rattle.rows_cells.specs.declared.format.CellFormat.TheVariants as format
use Rattle.rows_cells.specs.CellSizes.{width_bytes}

-- the value of a cell, wherever its bytes are in memory; a JSON document and JSON diffs are their bytes
pub data CellValue : Type 0 where
  null : CellValue
  bytes : List ℕ → CellValue
  int : ℤ → CellValue
  uint : ℕ → CellValue
  float : ℕ → CellValue
  double : ℕ → CellValue
  date : ℕ → ℕ → ℕ → ℕ → ℕ → ℕ → ℕ → CellValue
  time : Bool → ℕ → ℕ → ℕ → ℕ → ℕ → CellValue
  json : List ℕ → CellValue
  json_diffs : List ℕ → CellValue

-- year, month, day and time of a packed time; its sign is ignored
abbrev pub cell_date : ℤ → CellValue
cell_date packed =
    let t = date_fields MYSQL_TIMESTAMP_DATETIME packed in
    date t.year t.month t.day t.hour t.minute t.second t.second_part

-- a TIME value; its hours are split into days and hours
abbrev pub cell_time : ℤ → CellValue
cell_time packed =
    let t = span_fields packed in
    time t.neg (t.hour / 24) (t.hour % 24) t.minute t.second t.second_part

-- NEWDATE, in three bytes: the day in the lowest five bits, the month in the next four, the year above them
abbrev pub new_date : ℕ → CellValue
new_date n = date (n / 2 ^ 9 % 2 ^ 16) (n / 2 ^ 5 % 2 ^ 4) (n % 2 ^ 5) 0 0 0 0

-- the old DATETIME format: decimal digits YYYYMMDDhhmmss; only the lowest 16 bits of the year are kept
abbrev pub old_datetime : ℕ → CellValue
old_datetime n = date (n / 10 ^ 10 % 2 ^ 16) (n / 10 ^ 8 % 100) (n / 10 ^ 6 % 100) (n / 10 ^ 4 % 100) (n / 100 % 100) (n % 100) 0

-- the old TIME format: decimal digits hhmmss, with a sign
abbrev pub old_time : ℤ → CellValue
old_time z =
    let n = unsigned_abs z in
    time (int_lt z (pos 0)) (n / 10000 / 24) (n / 10000 % 24) (n / 100 % 100) (n % 100) 0

-- nothing for 0; else a point and at least six digits; if negative, a point, `-` and at least five
abbrev pub cell_micros_text : ℤ → List ℕ
cell_micros_text micros =
    if unsigned_abs micros == 0 then []
    else 46 ∷ (if int_lt micros (pos 0) then 45 ∷ padded_decimal 5 (unsigned_abs micros) else padded_decimal 6 (unsigned_abs micros))

-- the text of a timestamp: seconds, and the fraction if it has one
unfoldable pub timestamp_text : ℤ × ℤ → List ℕ
timestamp_text t = signed_decimal t.0 ++ cell_micros_text t.1

-- the text of a decimal, if the bytes pack one
abbrev pub decimal_value : Option (List ℕ) → Reading CellValue
decimal_value None = Err BadDecimal
decimal_value (Some text) = Ok (bytes text)

-- the value, or the error if there is one
abbrev pub unless : {A : Type 0} → Option RowsError → A → Reading A
unless None v = Ok v
unless (Some e) v = Err e

-- the value of a cell's content
abbrev pub content_value : CellFormat → List ℕ → Reading CellValue
content_value (format.Signed w) content = Ok (int (little_signed (width_bytes w) content))
content_value (format.Unsigned width.Eight) content = Ok (uint (little_number 8 content))
content_value (format.Unsigned w) content = Ok (int (pos (little_number (width_bytes w) content)))
content_value format.Float content = Ok (float (little_number 4 content))
content_value format.Double content = Ok (double (little_number 8 content))
content_value format.Year content = Ok (bytes (decimal (1900 + slice_index content 0)))
content_value format.NewDate content = Ok (new_date (little_number 3 content))
content_value format.OldTime content = Ok (old_time (little_signed 3 content))
content_value format.OldDatetime content = Ok (old_datetime (little_number 8 content))
content_value (format.Timestamp2 decimals) content = Ok (bytes (timestamp_text (timestamp2 (fraction_len decimals) content)))
content_value (format.Datetime2 decimals) content = Ok (cell_date (datetime2 (fraction_len decimals) content))
content_value (format.Time2 decimals) content = Ok (cell_time (time2 (fraction_len decimals) content))
content_value (format.Decimal precision scale) content = decimal_value (packed_text precision scale content)
content_value (format.Plain n) content = Ok (bytes content)
content_value (format.Counted w) content = Ok (bytes content)
content_value format.Json content = document content >>= λ v. Ok (json content)
content_value format.JsonDiffs content = unless (items_at diff_at content).fault (json_diffs content)
content_value format.NoMetadata content = Err Metadata
content_value format.NoCells content = Err Cell
