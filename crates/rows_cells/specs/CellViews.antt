-- The value of a borrowed cell, and the owned value that is made from it.
use Rattle.std.specs.Prelude.{◌≡◌, ⊤, ℕ, ◌+◌, List, [], map, Option, Some, None, IsSome, IsOk}
use Rattle.std.specs.declared.result.Result.TheVariants.{Ok, Err}
use Rattle.std.specs.Fmt.{decimal}
use Rattle.rows_values.specs.Unpacked.{packed_text}
use Rattle.rows_errors.specs.declared.fault.RowsError.{RowsError}
use Rattle.rows_errors.specs.declared.fault.RowsError.TheVariants.{Decimal as BadDecimal}
use Rattle.rows_values.specs.declared.rows.value.Value.{Value}
use Rattle.rows_values.specs.declared.rows.value.Value.TheVariants as value
use Rattle.rows_jsonb.specs.JsonbValues.{document}
use Rattle.rows_jsonb.specs.JsonbViews.{jsonb_value}
use Rattle.rows_jsonb.specs.Items.{items_at, all_found}
use Rattle.rows_jsonb.specs.JsonDiffs.{diff_at}
use Rattle.rows_jsonb.specs.JsonDiffViews.{diff_view}
use Rattle.rows_cells.specs.declared.binlog_value.BinlogValue.{BinlogValue}
use Rattle.rows_cells.specs.declared.binlog_value.BinlogValue.TheVariants as made
use Rattle.rows_cells.specs.declared.cell.CellRef.{CellRef}
use Rattle.rows_cells.specs.declared.cell.CellRef.TheVariants as ref
use Rattle.rows_cells.specs.CellValues.{CellValue, null, bytes, int, uint, float, double, date, time, json, json_diffs, cell_date, cell_time, new_date, old_time, old_datetime, timestamp_text}

-- the text, if there is one
abbrev pub text_or_none : Option (List ℕ) → List ℕ
text_or_none None = []
text_or_none (Some text) = text

abbrev pub cell_value : CellRef → CellValue
cell_value ref.Null = null
cell_value (ref.Int z) = int z
cell_value (ref.UInt n) = uint n
cell_value (ref.Float bits) = float bits
cell_value (ref.Double bits) = double bits
cell_value (ref.Bytes b) = bytes b.now
cell_value (ref.Year y) = bytes (decimal (1900 + y))
cell_value (ref.NewDate n) = new_date n
cell_value (ref.OldTime z) = old_time z
cell_value (ref.OldDatetime n) = old_datetime n
cell_value (ref.Timestamp seconds micros) = bytes (timestamp_text (seconds, micros))
cell_value (ref.Datetime packed) = cell_date packed
cell_value (ref.Time packed) = cell_time packed
cell_value (ref.Decimal precision scale b) = bytes (text_or_none (packed_text precision scale b.now))
cell_value (ref.Json b) = json b.now
cell_value (ref.JsonDiffs b) = json_diffs b.now

-- a value, wherever its bytes are in memory
abbrev pub cell_value_of : Value → CellValue
cell_value_of value.NULL = null
cell_value_of (value.Bytes b) = bytes b.items
cell_value_of (value.Int z) = int z
cell_value_of (value.UInt n) = uint n
cell_value_of (value.Float bits) = float bits
cell_value_of (value.Double bits) = double bits
cell_value_of (value.Date year month day hour minute second micros) = date year month day hour minute second micros
cell_value_of (value.Time negative days hours minutes seconds micros) = time negative days hours minutes seconds micros

-- the value made from a cell: JSON documents and JSON diffs are decoded
abbrev pub Holds : CellValue → BinlogValue → Type 0
Holds v (made.Value w) = v ≡ cell_value_of w
Holds (json b) (made.Jsonb d) = document b ≡ Ok (jsonb_value d)
Holds (json_diffs b) (made.JsonDiff ds) = items_at diff_at b ≡ all_found (map diff_view ds.items)
Holds v (made.Jsonb d) = ⊥
Holds v (made.JsonDiff ds) = ⊥

-- why a cell that wasn't read from bytes has no value
abbrev pub HasNoValue : CellRef → RowsError → Type 0
HasNoValue (ref.Decimal precision scale b) e = (e ≡ BadDecimal) × (packed_text precision scale b.now ≡ None)
HasNoValue (ref.Json b) e = document b.now ≡ Err e
HasNoValue (ref.JsonDiffs b) e = (items_at diff_at b.now).fault ≡ Some e
HasNoValue _ e = ⊥

-- the cell has a value: its decimal, JSON document or JSON diffs can be read
abbrev pub IsReadable : CellRef → Type 0
IsReadable (ref.Decimal precision scale b) = IsSome (packed_text precision scale b.now)
IsReadable (ref.Json b) = IsOk (document b.now)
IsReadable (ref.JsonDiffs b) = (items_at diff_at b.now).fault ≡ None
IsReadable _ = ⊤
