-- The columns of a table that the code has.
use Rattle.std.specs.Prelude.{List, map}
use Rattle.changes_tables.specs.ShownColumns.{ColumnView, column_view}
use Rattle.changes_lines.specs.declared.columns.Columns.{Columns}

abbrev pub columns_in : Columns → List ColumnView
columns_in c = map column_view c.columns.now
