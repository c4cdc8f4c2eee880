-- How the columns of a table are shown in JSON lines (MySQL Reference Manual, "Data Types").
use Rattle.std.specs.Prelude.{ℕ, List, map}
use Rattle.changes_tables.specs.declared.columns.Shown.{Shown}
use Rattle.changes_tables.specs.declared.shown_column.ShownColumn.{ShownColumn}

-- a column: its name as a JSON string and a colon, how its values are shown, and the members of an ENUM or a SET as JSON
pub record ColumnView : Type 0 where
  pub key : List ℕ
  pub shown : Shown
  pub members : List (List ℕ)

-- what a column of the code has
abbrev pub column_view : ShownColumn → ColumnView
column_view c = record { key = c.key.items; shown = c.shown; members = map (λ m. m.items) c.members.items }
