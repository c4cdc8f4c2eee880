-- The columns of a plan that are in an image, and their definitions (the crate, row.rs).
use Rattle.std.specs.Prelude.{ℕ, ◌+◌, Bool, false, List, ◌++◌, map, filter, Option, Some, None, if◌then◌else◌}
use Rattle.std.specs.declared.result.Result.TheVariants.{Ok}
use Rattle.wire_constants.specs.declared.column_flags.ColumnFlags.{ColumnFlags}
use Rattle.rows_values.specs.Columns.{ColumnParts}
use Rattle.rows_errors.specs.Readings.{Reading, ◌>>=◌}
use Rattle.rows_cells.specs.declared.image.ImageColumn.{ImageColumn}
use Rattle.rows_event_body.specs.Plans.{PlannedColumn}

-- the bit; false if there is none
abbrev pub bit_is_set : Option Bool → Bool
bit_is_set None = false
bit_is_set (Some b) = b

-- whether a column's bit is set
abbrev pub is_picked : (ℕ → Option Bool) → PlannedColumn → Bool
is_picked bit c = bit_is_set (bit c.image.column)

-- the columns whose bits are set
abbrev pub picked : (ℕ → Option Bool) → List PlannedColumn → List PlannedColumn
picked bit columns = filter (is_picked bit) columns

-- f of each column whose bit is set, or the error
abbrev pub picked_as : {A : Type 0} → (PlannedColumn → A) → (ℕ → Option Bool) → Reading (List PlannedColumn) → Reading (List A)
picked_as f bit columns = columns >>= λ cs. Ok (map f (picked bit cs))

-- these columns, and then those of an image
abbrev pub appended : List ImageColumn → Reading (List ImageColumn) → Reading (List ImageColumn)
appended before image = image >>= λ columns. Ok (before ++ columns)

-- a column as one of an image
abbrev pub image_column : PlannedColumn → ImageColumn
image_column c = c.image

-- UNSIGNED_FLAG and PRI_KEY_FLAG
abbrev pub column_flags : Bool → Bool → ColumnFlags
column_flags is_unsigned is_key = record { 0 = (if is_unsigned then 32 else 0) + (if is_key then 2 else 0) }

-- the definition of a column in a table of a database
abbrev pub definition : List ℕ → List ℕ → PlannedColumn → ColumnParts
definition database table c = record {
  column_type = c.real_type;
  schema = database;
  table = table;
  org_table = table;
  name = c.name;
  flags = column_flags c.is_unsigned c.is_key;
  character_set = c.character_set;
}
