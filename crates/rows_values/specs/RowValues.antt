-- The values and the columns of a row.
use Rattle.std.specs.Prelude.{◌≡◌, ℕ, List, Option, Some, None, slice_get}
use Rattle.std.specs.Rc.{rc_slice_items}
use Rattle.rows_values.specs.declared.rows.row.Row.{Row}
use Rattle.rows_values.specs.declared.rows.column.Column.{Column}
use Rattle.rows_values.specs.declared.rows.value.Value.{Value}
use Rattle.rows_values.specs.Values.{SameValue}

abbrev pub values_of : Row → List (Option Value)
values_of row = row.values.items

abbrev pub columns_of : Row → List Column
columns_of row = rc_slice_items row.columns

-- the value of a cell, if there is one
abbrev pub some_value : Option (Option Value) → Option Value
some_value None = None
some_value (Some v) = v

abbrev pub value_at : List (Option Value) → ℕ → Option Value
value_at values i = some_value (slice_get values i)

-- both have no value, or the same one
abbrev pub SameCell : Option Value → Option Value → Type 0
SameCell (Some v) (Some w) = SameValue v w
SameCell v w = v ≡ w
