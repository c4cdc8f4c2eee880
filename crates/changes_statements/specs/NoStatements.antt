-- Why a change of a row has no statement that makes it exactly (MySQL Reference Manual, "Floating-Point Types", "The JSON Data Type"; "Replication and Binary Logging Options", `binlog_row_image`, `binlog_row_value_options`).
use Rattle.std.specs.Prelude.{◌≡◌, ◌⊎◌, ◌<◌, ℕ, true, false, List, [], ◌∷◌, length, Some, None, from_bits, slice_get}
use Rattle.std.specs.declared.result.Result.TheVariants.{Ok}
use Rattle.std.specs.Float.{binary32, binary64, float_is_finite}
use Rattle.std.specs.Float.Ieee.{Format}
use Rattle.rows_cells.specs.declared.cell.CellRef.{CellRef}
use Rattle.rows_cells.specs.declared.cell.CellRef.TheVariants as cell
use Rattle.rows_values.specs.Unpacked.{packed_text}
use Rattle.rows_jsonb.specs.DocumentTrees.{document_tree}
use Rattle.rows_jsonb.specs.JsonTrees.{Tree}
use Rattle.feed_text.specs.DocumentForms.{IsDocumentIn}
use Rattle.changes_statements.specs.declared.row_change.RowChange.{RowChange}
use Rattle.changes_statements.specs.declared.row_change.RowChange.TheVariants.{Inserted, Deleted, Updated}
use Rattle.changes_statements.specs.PlainDocuments.{plain_form}
use Rattle.changes_statements.specs.RowsOfCells.{Cells, cell_in}
use Rattle.changes_statements.specs.SqlLiterals.{has_no_text}
use Rattle.changes_statements.specs.declared.no_statement.NoStatement.{NoStatement}
use Rattle.changes_statements.specs.declared.no_statement.NoStatement.TheVariants.{Columns, Document, Float, Memory, PartialUpdate, Row}
use Rattle.changes_statements.specs.declared.sql_table.SqlColumn.{SqlColumn}
use Rattle.changes_statements.specs.declared.sql_table.SqlTable.{SqlTable}

-- out of memory, or this reason
abbrev pub IsMemoryOr : (NoStatement → Type 0) → NoStatement → Type 0
IsMemoryOr IsReason e = (e ≡ Memory) ⊎ IsReason e

-- the bits of a float that isn't finite
abbrev pub IsNotFinite : Format → ℕ → NoStatement → Type 0
IsNotFinite format bits e = (float_is_finite (from_bits format bits) ≡ false) × (e ≡ Float)

-- bytes that pack no decimal
abbrev pub PacksNoDecimal : ℕ → ℕ → List ℕ → NoStatement → Type 0
PacksNoDecimal precision scale b e = (packed_text precision scale b ≡ None) × (e ≡ Row)

-- a JSON document that can't be parsed
pub record IsNoDocument (b : List ℕ) (e : NoStatement) : Type 0 where
  pub none : (tree : Tree) → document_tree b ≡ Ok tree → ⊥
  pub row : e ≡ Row

-- a JSON document with a value that JSON text doesn't have
pub record HasOtherValue (b : List ℕ) (e : NoStatement) : Type 0 where
  pub tree : Tree
  pub is : document_tree b ≡ Ok tree
  pub json : List ℕ
  pub json_is : IsDocumentIn plain_form tree json
  pub lacks : has_no_text json ≡ true
  pub document : e ≡ Document

-- a document of one of both kinds
abbrev pub HasNoJsonText : List ℕ → NoStatement → Type 0
HasNoJsonText b e = IsNoDocument b e ⊎ HasOtherValue b e

-- a cell without a literal
unfoldable pub HasNoLiteral : CellRef → NoStatement → Type 0
HasNoLiteral (cell.Float bits) e = IsNotFinite binary32 bits e
HasNoLiteral (cell.Double bits) e = IsNotFinite binary64 bits e
HasNoLiteral (cell.Decimal precision scale b) e = PacksNoDecimal precision scale b.now e
HasNoLiteral (cell.Json b) e = HasNoJsonText b.now e
HasNoLiteral (cell.JsonDiffs b) e = e ≡ PartialUpdate
HasNoLiteral _ e = ⊥

-- an image has the column with an index, whose cell has no literal
pub record HasNoValue (columns : List SqlColumn) (cells : Cells) (index : ℕ) (e : NoStatement) : Type 0 where
  pub column : SqlColumn
  pub cell : CellRef
  pub column_is : slice_get columns index ≡ Some column
  pub cell_is : cell_in cells index ≡ Some cell
  pub none : HasNoLiteral cell e

-- a list of the columns of an image
abbrev pub HasNoItems : List SqlColumn → Cells → NoStatement → Type 0
HasNoItems columns cells e = (index : ℕ) × HasNoValue columns cells index e

-- the table or the image doesn't have the column
abbrev pub LacksColumn : List SqlColumn → Cells → ℕ → NoStatement → Type 0
LacksColumn columns cells index e = ((slice_get columns index ≡ None) ⊎ (cell_in cells index ≡ None)) × (e ≡ Columns)

-- the comparison of a column
abbrev pub HasNoComparison : List SqlColumn → Cells → ℕ → NoStatement → Type 0
HasNoComparison columns cells index e = LacksColumn columns cells index e ⊎ HasNoValue columns cells index e

-- the comparison of the columns of the key, and of all columns
abbrev pub HasNoKey : SqlTable → Cells → NoStatement → Type 0
HasNoKey table cells e = (place : ℕ) × (index : ℕ) × (slice_get table.key.items place ≡ Some index) × HasNoComparison table.columns.items cells index e

abbrev pub HasNoneOfAll : SqlTable → Cells → NoStatement → Type 0
HasNoneOfAll table cells e = (index : ℕ) × (index < length table.columns.items) × HasNoComparison table.columns.items cells index e

-- the condition that finds a row: by the key, or without one by all columns
abbrev pub HasNoConditionBy : List ℕ → SqlTable → Cells → NoStatement → Type 0
HasNoConditionBy [] table cells e = HasNoneOfAll table cells e
HasNoConditionBy (index ∷ indexes) table cells e = HasNoKey table cells e

unfoldable pub HasNoCondition : SqlTable → Cells → NoStatement → Type 0
HasNoCondition table cells e = HasNoConditionBy table.key.items table cells e

-- a change of a row of a table
abbrev pub HasNoStatement : SqlTable → RowChange Cells → NoStatement → Type 0
HasNoStatement table (Inserted cells) e = HasNoItems table.columns.items cells e
HasNoStatement table (Deleted cells) e = HasNoCondition table cells e
HasNoStatement table (Updated before after) e = HasNoItems table.columns.items after e ⊎ HasNoCondition table before e
