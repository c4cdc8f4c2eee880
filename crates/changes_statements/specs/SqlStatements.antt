-- The statement of a change of a row (MySQL Reference Manual, "INSERT", "UPDATE" and "DELETE Statement", "Comparison Functions and Operators").
use Rattle.std.specs.Prelude.{◌≡◌, ℕ, Bool, true, false, not, List, [], ◌∷◌, ◌++◌, length, Option, Some, None, slice_get, codes, if◌then◌else◌}
use Rattle.std.specs.List.{AllZip, flat_map, range_with_len}
use Rattle.std.specs.Borrow.{Bor}
use Rattle.rows_cells.specs.declared.cell.CellRef.{CellRef}
use Rattle.changes_tables.specs.declared.columns.Shown.{Shown}
use Rattle.changes_tables.specs.declared.columns.Shown.TheVariants as shown
use Rattle.changes_statements.specs.declared.row_change.RowChange.{RowChange}
use Rattle.changes_statements.specs.declared.row_change.RowChange.TheVariants.{Inserted, Deleted, Updated}
use Rattle.changes_statements.specs.declared.row_cells.RowCells.{RowCells}
use Rattle.changes_statements.specs.declared.sql_table.SqlColumn.{SqlColumn}
use Rattle.changes_statements.specs.declared.sql_table.SqlTable.{SqlTable}
use Rattle.changes_statements.specs.declared.statements.Item.{Item}
use Rattle.changes_statements.specs.declared.statements.Item.TheVariants as item
use Rattle.changes_statements.specs.RowsOfCells.{Cells, cell_in, cells_in}
use Rattle.changes_statements.specs.SqlLiterals.{IsLiteral}

-- texts with another between them
abbrev pub separated : List ℕ → List (List ℕ) → List ℕ
separated between [] = []
separated between (text ∷ texts) = text ++ flat_map (λ t. between ++ t) texts

-- ---- lists of the columns that an image has

-- a column and its cell, if both are there
abbrev pub kept_of : Option SqlColumn → Option CellRef → List (SqlColumn × CellRef)
kept_of (Some column) (Some cell) = (column, cell) ∷ []
kept_of (Some column) None = []
kept_of None cell = []

-- the columns before an index that an image has, with their cells
abbrev pub kept_before : ℕ → List SqlColumn → Cells → List (SqlColumn × CellRef)
kept_before n columns cells = flat_map (λ i. kept_of (slice_get columns i) (cell_in cells i)) (range_with_len 0 n)

-- the text of a column in a list: its name, its value, or both
unfoldable pub IsItem : Item → SqlColumn → CellRef → List ℕ → Type 0
IsItem item.Name column cell x = x ≡ column.quoted.items
IsItem item.Value column cell x = IsLiteral column.shown column.padded_len false cell x
IsItem item.Assignment column cell x = (value : List ℕ) × IsLiteral column.shown column.padded_len false cell value × (x ≡ column.quoted.items ++ 61 ∷ value)

-- the same of a column with its cell
abbrev pub IsKeptItem : Item → SqlColumn × CellRef → List ℕ → Type 0
IsKeptItem item kept x = IsItem item kept.0 kept.1 x

-- a list of the columns that an image has
pub record IsItemList (item : Item) (columns : List SqlColumn) (cells : Cells) (x : List ℕ) : Type 0 where
  pub texts : List (List ℕ)
  pub are : AllZip (IsKeptItem item) (kept_before (length columns) columns cells) texts
  pub text : x ≡ separated (codes ",") texts

-- whether there are none
abbrev pub is_none : List (List ℕ) → Bool
is_none [] = true
is_none (text ∷ texts) = false

-- a list of the columns before an index follows the start of a text
pub record HasItems (item : Item) (columns : List SqlColumn) (cells : Cells) (n : ℕ) (first : Bool) (start now : List ℕ) : Type 0 where
  pub texts : List (List ℕ)
  pub are : AllZip (IsKeptItem item) (kept_before n columns cells) texts
  pub first_is : first ≡ is_none texts
  pub text : now ≡ start ++ separated (codes ",") texts

-- ---- the condition that finds a row

-- whether the values of a column may be text, which is compared as bytes
abbrev pub may_be_text : Shown → Bool
may_be_text (shown.Text set) = true
may_be_text shown.Unknown = true
may_be_text _ = false

-- a column of the key and an equals sign; another column and the operator that NULL is equal by, text as bytes
unfoldable pub compared : Bool → SqlColumn → List ℕ
compared true column = column.quoted.items ++ codes "="
compared false column = if may_be_text column.shown then codes "CAST(" ++ (column.quoted.items ++ codes " AS BINARY)<=>") else column.quoted.items ++ codes "<=>"

-- the comparison of the column with an index with its cell in an image
pub record IsComparison (is_key : Bool) (columns : List SqlColumn) (cells : Cells) (index : ℕ) (x : List ℕ) : Type 0 where
  pub column : SqlColumn
  pub cell : CellRef
  pub column_is : slice_get columns index ≡ Some column
  pub cell_is : cell_in cells index ≡ Some cell
  pub value : List ℕ
  pub value_is : IsLiteral column.shown column.padded_len (not is_key) cell value
  pub text : x ≡ compared is_key column ++ value

-- the comparisons of the columns with these indexes
pub record HasComparisons (is_key : Bool) (columns : List SqlColumn) (cells : Cells) (indexes : List ℕ) (x : List ℕ) : Type 0 where
  pub texts : List (List ℕ)
  pub are : AllZip (IsComparison is_key columns cells) indexes texts
  pub text : x ≡ separated (codes " AND ") texts

-- that a row has the key of an image, and that it has all its values
abbrev pub IsComparisonOfKey : SqlTable → Cells → List ℕ → Type 0
IsComparisonOfKey table cells x = HasComparisons true table.columns.items cells table.key.items x

abbrev pub IsComparisonOfAll : SqlTable → Cells → List ℕ → Type 0
IsComparisonOfAll table cells x = HasComparisons false table.columns.items cells (range_with_len 0 (length table.columns.items)) x

-- by the key, or without one by all columns: one of equal rows
abbrev pub IsConditionBy : List ℕ → SqlTable → Cells → List ℕ → Type 0
IsConditionBy [] table cells x = (all : List ℕ) × IsComparisonOfAll table cells all × (x ≡ codes " WHERE " ++ (all ++ codes " LIMIT 1"))
IsConditionBy (index ∷ indexes) table cells x = (key : List ℕ) × IsComparisonOfKey table cells key × (x ≡ codes " WHERE " ++ key)

unfoldable pub IsCondition : SqlTable → Cells → List ℕ → Type 0
IsCondition table cells x = IsConditionBy table.key.items table cells x

-- ---- statements

pub record IsInsert (table : SqlTable) (cells : Cells) (x : List ℕ) : Type 0 where
  pub names : List ℕ
  pub values : List ℕ
  pub names_are : IsItemList item.Name table.columns.items cells names
  pub values_are : IsItemList item.Value table.columns.items cells values
  pub text : x ≡ codes "INSERT INTO " ++ (table.name.items ++ (codes " (" ++ (names ++ (codes ") VALUES (" ++ (values ++ codes ");\n")))))

pub record IsDelete (table : SqlTable) (cells : Cells) (x : List ℕ) : Type 0 where
  pub condition : List ℕ
  pub condition_is : IsCondition table cells condition
  pub text : x ≡ codes "DELETE FROM " ++ (table.name.items ++ (condition ++ codes ";\n"))

pub record IsUpdate (table : SqlTable) (before after : Cells) (x : List ℕ) : Type 0 where
  pub assignments : List ℕ
  pub condition : List ℕ
  pub assignments_are : IsItemList item.Assignment table.columns.items after assignments
  pub condition_is : IsCondition table before condition
  pub text : x ≡ codes "UPDATE " ++ (table.name.items ++ (codes " SET " ++ (assignments ++ (condition ++ codes ";\n"))))

-- a change by the cells of its images
abbrev pub cells_of : RowChange (Bor RowCells) → RowChange Cells
cells_of (Inserted row) = Inserted (cells_in row.now)
cells_of (Deleted row) = Deleted (cells_in row.now)
cells_of (Updated before after) = Updated (cells_in before.now) (cells_in after.now)

-- the statement that makes a change of a row of a table
abbrev pub IsStatement : SqlTable → RowChange Cells → List ℕ → Type 0
IsStatement table (Inserted cells) x = IsInsert table cells x
IsStatement table (Deleted cells) x = IsDelete table cells x
IsStatement table (Updated before after) x = IsUpdate table before after x
