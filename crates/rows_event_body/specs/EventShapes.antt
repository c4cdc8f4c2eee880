-- The layouts of an event's images, by the plan of its table: the columns of the table in each; and the rows that are read with them (MySQL Internals: Rows_event).
use Rattle.std.specs.Prelude.{ℕ, Bool, false, List, [], ◌∷◌, Option, Some, None, nat_lt, if◌then◌else◌}
use Rattle.std.specs.declared.result.Result.TheVariants.{Ok, Err}
use Rattle.rows_table_map.specs.BitLists.{lowest_bit}
use Rattle.rows_errors.specs.declared.fault.RowsError.TheVariants.{EmptyPair}
use Rattle.rows_errors.specs.Readings.{Reading, ◌>>=◌}
use Rattle.rows_jsonb.specs.Items.{Walked, items_at}
use Rattle.rows_cells.specs.Images.{ColumnValue, ImageShape}
use Rattle.rows_cells.specs.EventRows.{row_at}
use Rattle.rows_event_body.specs.ImageShapes.{TablePlan, shape_picked}
use Rattle.rows_event_body.specs.RowsEventTypes.{images_of, has_partial_after}
use Rattle.rows_event_body.specs.RowsEvents.{RowsBody}

-- bit i of the bits for n columns
abbrev pub column_bit : ℕ → List ℕ → ℕ → Option Bool
column_bit n bits i = if nat_lt i n then Some (lowest_bit bits i) else None

-- the layout of an image with the columns whose bits are set
abbrev pub shape_by : TablePlan → ℕ → Bool → List ℕ → Reading ImageShape
shape_by p n is_partial bits = shape_picked p n is_partial (column_bit n bits)

-- the layouts of a row's images, in order; `EmptyPair` if it has none
abbrev pub shapes_by : TablePlan → ℕ → Bool → Option (List ℕ) → Option (List ℕ) → Reading (List ImageShape)
shapes_by p n is_partial None None = Err EmptyPair
shapes_by p n is_partial (Some before) None = shape_by p n false before >>= λ first. Ok (first ∷ [])
shapes_by p n is_partial None (Some after) = shape_by p n is_partial after >>= λ first. Ok (first ∷ [])
shapes_by p n is_partial (Some before) (Some after) = do
  first ← shape_by p n false before
  second ← shape_by p n is_partial after
  Ok (first ∷ second ∷ [])

-- the layouts of an event's images by the plan of its table, or why there are none
abbrev pub event_shapes : RowsBody → TablePlan → Reading (List ImageShape)
event_shapes r p = shapes_by p r.columns (has_partial_after (images_of r.event_type)) r.before r.after

-- the row that rows data begins with, and the bytes after it
abbrev pub row_read : RowsBody → TablePlan → List ℕ → Reading (List (List ColumnValue) × List ℕ)
row_read r p bytes = event_shapes r p >>= λ shapes. row_at shapes bytes

-- the rows of an event: all, or those before the first that can't be read, and the error
abbrev pub event_rows : RowsBody → TablePlan → Walked (List (List ColumnValue))
event_rows r p = items_at (row_read r p) r.rows_data
