-- The value of a cell that a caller keeps: which bytes encode it, and its conversion to a plain value.
use Rattle.std.specs.Prelude.{◌≡◌, ⊤, ℕ, List, map}
use Rattle.std.specs.declared.result.Result.{Result}
use Rattle.std.specs.declared.result.Result.TheVariants.{Ok, Err}
use Rattle.rows_values.specs.declared.rows.value.Value.{Value}
use Rattle.rows_jsonb.specs.JsonbValues.{JsonbValue, document}
use Rattle.rows_jsonb.specs.JsonbViews.{jsonb_value}
use Rattle.rows_jsonb.specs.Items.{items_at, all_found}
use Rattle.rows_jsonb.specs.JsonDiffs.{Diff, diff_at}
use Rattle.rows_jsonb.specs.JsonDiffViews.{diff_view}
use Rattle.rows_cells.specs.declared.format.CellFormat.{CellFormat}
use Rattle.rows_cells.specs.declared.binlog_value.BinlogValue.{BinlogValue}
use Rattle.rows_cells.specs.declared.binlog_value.BinlogValue.TheVariants as made
use Rattle.rows_cells.specs.declared.conversions.BinlogValueToValueError.{BinlogValueToValueError}
use Rattle.rows_cells.specs.declared.conversions.BinlogValueToValueError.TheVariants as failed
use Rattle.rows_cells.specs.declared.value_field.BinlogValueCtx.{BinlogValueCtx}
use Rattle.rows_cells.specs.CellValues.{CellValue}
use Rattle.rows_cells.specs.CellValues as cell
use Rattle.rows_cells.specs.CellViews.{cell_value_of}
use Rattle.rows_cells.specs.ColumnFormats.{column_format}
use Rattle.rows_cells.specs.Cells.{IsCell}
use Rattle.rows_cells.specs.ColumnFormats.{format_by}

-- what is kept of a cell: a value, a JSON document, or JSON diffs
pub data Kept : Type 0 where
  value : CellValue → Kept
  json : JsonbValue → Kept
  json_diffs : List Diff → Kept

abbrev pub kept_view : BinlogValue → Kept
kept_view (made.Value w) = value (cell_value_of w)
kept_view (made.Jsonb d) = json (jsonb_value d)
kept_view (made.JsonDiff ds) = json_diffs (map diff_view ds.items)

-- a value that is neither a JSON document nor JSON diffs
abbrev pub IsPlain : CellValue → Type 0
IsPlain (cell.json b) = ⊥
IsPlain (cell.json_diffs b) = ⊥
IsPlain _ = ⊤

-- documents and diffs are kept as their decoded contents, other values unchanged
abbrev pub IsKeptOf : CellValue → Kept → Type 0
IsKeptOf v (value w) = (v ≡ w) × IsPlain w
IsKeptOf v (json d) = (b : List ℕ) × (v ≡ cell.json b) × (document b ≡ Ok d)
IsKeptOf v (json_diffs ds) = (b : List ℕ) × (v ≡ cell.json_diffs b) × (items_at diff_at b ≡ all_found ds)

-- the bytes encode a cell of which this is kept
pub record IsKeptCell (format : CellFormat) (kept : Kept) (bytes : List ℕ) : Type 0 where
  pub seen : CellValue
  pub cell_is : IsCell format seen bytes
  pub kept_is : IsKeptOf seen kept

-- the format of a column's cells: JSON diffs if the cell is partial
abbrev pub format_of_ctx : BinlogValueCtx → CellFormat
format_of_ctx c = format_by c.is_partial (column_format c.real_type c.metadata.now c.is_unsigned)

-- a plain value stays the same; documents and diffs are errors
abbrev pub plain_value : BinlogValue → Result Value BinlogValueToValueError
plain_value (made.Value w) = Ok w
plain_value (made.Jsonb d) = Err failed.ToJson
plain_value (made.JsonDiff ds) = Err failed.JsonDiff
