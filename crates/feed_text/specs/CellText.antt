-- The text of the feed: cells.
use Rattle.std.specs.Prelude.{◌≡◌, ◌⊎◌, ℕ, map, List, ◌∷◌, ◌++◌, [], codes, Option, Some, None}
use Rattle.std.specs.declared.result.Result.TheVariants.{Ok, Err}
use Rattle.std.specs.Fmt.{decimal, signed_decimal}
use Rattle.rows_errors.specs.declared.fault.RowsError.{RowsError}
use Rattle.rows_errors.specs.declared.fault.RowsError.TheVariants.{Decimal}
use Rattle.rows_values.specs.Unpacked.{packed_text}
use Rattle.rows_jsonb.specs.JsonTrees.{Tree}
use Rattle.rows_errors.specs.Readings.{Reading, ◌>>=◌}
use Rattle.rows_jsonb.specs.JsonbViews.{jsonb_value}
use Rattle.rows_jsonb.specs.DocumentTrees.{tree_in, document_tree}
use Rattle.rows_jsonb.specs.JsonParsing.{Parses}
use Rattle.rows_jsonb.specs.Items.{items_at}
use Rattle.rows_jsonb.specs.JsonDiffs.{diff_at}
use Rattle.rows_jsonb.specs.JsonDiffViews.{diff_view}
use Rattle.rows_cells.specs.CellValues.{CellValue, null, bytes, int, uint, float, double, date, time, json, json_diffs, unless}
use Rattle.rows_cells.specs.CellViews.{cell_value_of}
use Rattle.rows_cells.specs.declared.cell.CellRef.{CellRef}
use Rattle.rows_cells.specs.declared.cell.CellRef.TheVariants as ref
use Rattle.rows_cells.specs.declared.binlog_value.BinlogValue.{BinlogValue}
use Rattle.rows_cells.specs.declared.binlog_value.BinlogValue.TheVariants as made
use Rattle.feed_writers.specs.Quoting.{quoted}
use Rattle.feed_text.specs.Times.{date_text, span_text}
use Rattle.feed_text.specs.ValueText.{float_text, double_text}
use Rattle.feed_text.specs.JsonText.{document_text}
use Rattle.feed_text.specs.DiffText.{diffs_text}

-- the text of a parsed JSON document
abbrev pub tree_text : Reading Tree → Reading (List ℕ)
tree_text found = found >>= λ t. Ok (document_text t)

-- the text of the updates that bytes have; an error if they aren't updates
abbrev pub cell_diffs_text : List ℕ → Reading (List ℕ)
cell_diffs_text b = unless (items_at diff_at b).fault (items_at diff_at b).items >>= diffs_text

-- the text of a value; an error for a JSON document without a tree, or for JSON diffs with such a document
unfoldable pub cell_value_text : CellValue → Reading (List ℕ)
cell_value_text null = Ok (codes "NULL")
cell_value_text (bytes b) = Ok (quoted b)
cell_value_text (int z) = Ok (signed_decimal z)
cell_value_text (uint n) = Ok (117 ∷ decimal n)
cell_value_text (float bits) = Ok (float_text bits)
cell_value_text (double bits) = Ok (double_text bits)
cell_value_text (date year month day hour minute second micros) =
    Ok (date_text (record { year = year; month = month; day = day }) (record { hour = hour; minute = minute; second = second; micros = micros }))
cell_value_text (time negative days hours minutes seconds micros) =
    Ok (span_text negative days (record { hour = hours; minute = minutes; second = seconds; micros = micros }))
cell_value_text (json b) = tree_text (document_tree b)
cell_value_text (json_diffs b) = cell_diffs_text b

-- a space, the column's index in the table, and `=`
abbrev pub label : ℕ → List ℕ
label column = 32 ∷ decimal column ++ 61 ∷ []

-- the text of a cell, given its column's index
abbrev pub cell_text : ℕ → CellValue → Reading (List ℕ)
cell_text column v = cell_value_text v >>= λ t. Ok (label column ++ t)

-- the text of an owned value
unfoldable pub kept_text : BinlogValue → Reading (List ℕ)
kept_text (made.Value v) = cell_value_text (cell_value_of v)
kept_text (made.Jsonb d) = tree_text (tree_in (jsonb_value d))
kept_text (made.JsonDiff ds) = diffs_text (map diff_view ds.items)

abbrev pub kept_cell_text : ℕ → BinlogValue → Reading (List ℕ)
kept_cell_text column v = kept_text v >>= λ t. Ok (label column ++ t)

-- the text was appended
abbrev pub Appends : Reading (List ℕ) → List ℕ → List ℕ → Type 0
Appends (Ok text) old new = new ≡ old ++ text
Appends (Err e) old new = ⊥

-- a label and the text were appended
abbrev pub AppendsLabeledReading : ℕ → Reading (List ℕ) → List ℕ → List ℕ → Type 0
AppendsLabeledReading column text old new = Appends (text >>= λ t. Ok (label column ++ t)) old new

-- there is a text, and a label and the text were appended
abbrev pub AppendsLabeled : ℕ → Option (List ℕ) → List ℕ → List ℕ → Type 0
AppendsLabeled column None old new = ⊥
AppendsLabeled column (Some text) old new = new ≡ old ++ (label column ++ text)

-- nothing was appended: out of memory, or the JSON document can't be parsed, for this error
abbrev pub IsTextError : RowsError → Reading (List ℕ) → List ℕ → List ℕ → Type 0
IsTextError e text old new = Parses (λ t. t) (Err e) text × (new ≡ old)

-- a decimal whose bytes aren't a packed decimal; no cell that was read is one
abbrev pub PacksNone : CellRef → Type 0
PacksNone (ref.Decimal precision scale b) = packed_text precision scale b.now ≡ None
PacksNone cell = ⊥

abbrev pub IsCellError : RowsError → CellRef → Reading (List ℕ) → List ℕ → List ℕ → Type 0
IsCellError e cell text old new = (((e ≡ Decimal) × PacksNone cell) ⊎ Parses (λ t. t) (Err e) text) × (new ≡ old)
