-- Why a row has no line in the format of Maxwell, Debezium or Canal (docs/FORMATS.md).
use Rattle.std.specs.Prelude.{◌≡◌, ◌⊎◌, ℕ, Option, None, Some}
use Rattle.std.specs.Float.{binary32, binary64}
use Rattle.rows_cells.specs.declared.cell.CellRef.{CellRef}
use Rattle.rows_cells.specs.declared.cell.CellRef.TheVariants as cell
use Rattle.changes_statements.specs.declared.row_change.RowChange.{RowChange}
use Rattle.changes_statements.specs.declared.row_change.RowChange.TheVariants.{Inserted, Deleted, Updated}
use Rattle.changes_statements.specs.NoStatements.{IsNoDocument, IsNotFinite, PacksNoDecimal}
use Rattle.changes_statements.specs.declared.no_statement.NoStatement.{NoStatement}
use Rattle.changes_statements.specs.declared.no_statement.NoStatement.TheVariants.{Float, Names, PartialUpdate, Row}

-- a cell without a value in a line: a float that isn't finite, bytes that pack no decimal, a JSON document that can't be parsed, and partial updates of one
unfoldable pub HasNoMember : CellRef → NoStatement → Type 0
HasNoMember (cell.Float bits) e = IsNotFinite binary32 bits e
HasNoMember (cell.Double bits) e = IsNotFinite binary64 bits e
HasNoMember (cell.Decimal precision scale b) e = PacksNoDecimal precision scale b.now e
HasNoMember (cell.Json b) e = IsNoDocument b.now e
HasNoMember (cell.JsonDiffs b) e = e ≡ PartialUpdate
HasNoMember _ e = ⊥

-- the images before and after a change, and the image after it, or that before it of a deleted row
abbrev pub before_of : {A : Type 0} → RowChange A → Option A
before_of (Inserted row) = None
before_of (Deleted row) = Some row
before_of (Updated before after) = Some before

abbrev pub after_of : {A : Type 0} → RowChange A → Option A
after_of (Inserted row) = Some row
after_of (Deleted row) = None
after_of (Updated before after) = Some after

abbrev pub newest_of : {A : Type 0} → RowChange A → A
newest_of (Inserted row) = row
newest_of (Deleted row) = row
newest_of (Updated before after) = after

-- why an image has no object: a row, a decimal or a document can't be read, a partial update, or a float that isn't finite
abbrev pub IsUnprinted : NoStatement → Type 0
IsUnprinted e = (e ≡ Row) ⊎ ((e ≡ PartialUpdate) ⊎ (e ≡ Float))

-- why the rows of an event have no lines: the same, or the log doesn't name the columns
abbrev pub IsRefusal : NoStatement → Type 0
IsRefusal e = (e ≡ Names) ⊎ IsUnprinted e
