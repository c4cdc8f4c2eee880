-- Conversion of a row to plain values, and the first value that has none.
use Rattle.std.specs.Prelude.{◌≡◌, List, ◌∷◌, ◌++◌, length, map, Option, Some, None}
use Rattle.std.specs.declared.result.Result.{Result}
use Rattle.std.specs.declared.result.Result.TheVariants.{Ok, Err}
use Rattle.rows_values.specs.declared.rows.value.Value.{Value}
use Rattle.rows_cells.specs.declared.binlog_value.BinlogValue.{BinlogValue}
use Rattle.rows_cells.specs.declared.conversions.BinlogValueToValueError.{BinlogValueToValueError}
use Rattle.rows_cells.specs.declared.conversions.BinlogValueToValueError.TheVariants.{Memory}
use Rattle.rows_cells.specs.BinlogValues.{plain_value}
use Rattle.rows_event_body.specs.declared.into_row.BinlogRowToRowError.{BinlogRowToRowError}

-- the error, or the value as one that wasn't taken
abbrev pub some_plain : Result Value BinlogValueToValueError → Result (Option Value) BinlogValueToValueError
some_plain (Ok v) = Ok (Some v)
some_plain (Err e) = Err e

-- the plain value, or the error; a value that was taken stays None
abbrev pub plain_cell : Option BinlogValue → Result (Option Value) BinlogValueToValueError
plain_cell None = Ok None
plain_cell (Some v) = some_plain (plain_value v)

-- the error for out of memory
abbrev pub out_of_memory : BinlogRowToRowError
out_of_memory = record { column_offset = 0; error = Memory }

-- the values before the offset are plain, and the one at the offset is the error
pub record IsFirstNotPlain (values : List (Option BinlogValue)) (fails_with : BinlogRowToRowError) : Type 0 where
  pub before : List (Option Value)
  pub after : List (Result (Option Value) BinlogValueToValueError)
  pub values_are : map plain_cell values ≡ map Ok before ++ (Err fails_with.error ∷ after)
  pub offset_is : fails_with.column_offset ≡ length before
