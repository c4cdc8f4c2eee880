-- The lines of a transaction in the format of Maxwell, Debezium or Canal (docs/FORMATS.md).
use Rattle.std.specs.Prelude.{◌≡◌, ℕ, ◌+◌, ◌-◌, ◌==◌, Bool, true, false, List, [], ◌∷◌, ◌++◌, codes, if◌then◌else◌}
use Rattle.std.specs.List.{flat_map}
use Rattle.std.specs.Fmt.{decimal}
use Rattle.std.specs.declared.result.Result.{Result}
use Rattle.std.specs.declared.result.Result.TheVariants.{Ok, Err}
use Rattle.rows_cells.specs.Images.{ImageShape}
use Rattle.rows_table_map.specs.TableMaps.{TableMap}
use Rattle.rows_event_body.specs.EventShapes.{event_shapes}
use Rattle.rows_event_body.specs.RowsEvents.{RowsBody}
use Rattle.feed_text.specs.Buffers.{text_in}
use Rattle.feed_transactions.specs.CheckedRows.{rows_count}
use Rattle.feed_transactions.specs.MappedRows.{plan_by}
use Rattle.changes_writers.specs.JsonStrings.{json_byte}
use Rattle.changes_commands.specs.declared.format_options.Format.{Format}
use Rattle.changes_commands.specs.declared.format_options.Format.TheVariants.{Maxwell, Debezium, Canal}
use Rattle.changes_formats.specs.declared.lines.FormatLines.{FormatLines}
use Rattle.changes_formats.specs.declared.lines.LineText.{LineText}

-- a text that begins with the old one
pub record GoesOn (old new : List ℕ) : Type 0 where
  pub more : List ℕ
  pub is : new ≡ old ++ more

-- the end of Maxwell's line: that it is the last of its transaction, or its number there, from 0
abbrev pub maxwell_end : Bool → ℕ → List ℕ
maxwell_end is_last index = if is_last then codes ",\"commit\":true}\n" else codes ",\"xoffset\":" ++ (decimal index ++ codes "}\n")

-- the end of the line of the last of so many rows, as far as it shows only then whether it is the last of its transaction
abbrev pub line_end : Format → Bool → ℕ → List ℕ
line_end Maxwell is_last rows = if rows == 0 then [] else maxwell_end is_last (rows - 1)
line_end Debezium is_last rows = []
line_end Canal is_last rows = []

-- the name of a log and a position, as a string with a colon between them
abbrev pub place_text : List ℕ → ℕ → List ℕ
place_text file position = 34 ∷ (flat_map json_byte file ++ 58 ∷ (decimal position ++ 34 ∷ []))

-- how many rows an event has, by the map of its table and the layouts of its images
abbrev pub rows_by : {E : Type 0} → Result (List ImageShape) E → List ℕ → ℕ
rows_by (Ok shapes) bytes = rows_count shapes bytes
rows_by (Err e) bytes = 0

abbrev pub rows_in : TableMap → RowsBody → ℕ
rows_in m r = rows_by (event_shapes r (plan_by m)) r.rows_data

-- the lines so far, how many rows have one, their format, and the number of the transaction
abbrev pub lines_of : FormatLines → List ℕ
lines_of s = text_in s.lines.text

abbrev pub row_number : FormatLines → ℕ
row_number s = s.lines.rows

abbrev pub format_of : FormatLines → Format
format_of s = s.lines.format

-- so many lines were added
pub record AddsLines (count : ℕ) (old new : LineText) : Type 0 where
  pub text : GoesOn (text_in old.text) (text_in new.text)
  pub rows : new.rows ≡ old.rows + count
  pub format : new.format ≡ old.format
