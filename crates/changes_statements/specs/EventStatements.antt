-- The statements of the rows of events, or what takes them back (MySQL Internals, "Rows_event": the images of each type of event).
use Rattle.std.specs.Prelude.{◌≡◌, ◌⊎◌, ℕ, Bool, true, false, List, [], ◌∷◌, ◌++◌, is_some}
use Rattle.std.specs.List.{list_all}
use Rattle.rows_event_body.specs.declared.rows_event_type.RowImages.{RowImages}
use Rattle.rows_event_body.specs.declared.rows_event_type.RowImages.TheVariants as images
use Rattle.changes_statements.specs.RowChanges.{turned_round}
use Rattle.changes_statements.specs.declared.row_change.RowChange.{RowChange}
use Rattle.changes_statements.specs.declared.row_change.RowChange.TheVariants.{Inserted, Deleted, Updated}
use Rattle.changes_statements.specs.NoStatements.{HasNoItems, HasNoStatement}
use Rattle.changes_statements.specs.RowsOfCells.{Cells, IsFilled, IsMissing}
use Rattle.changes_statements.specs.declared.no_statement.NoStatement.{NoStatement}
use Rattle.changes_statements.specs.declared.no_statement.NoStatement.TheVariants.{Columns}
use Rattle.changes_statements.specs.SqlStatements.{IsStatement}
use Rattle.changes_statements.specs.declared.sql_table.SqlTable.{SqlTable}
use Rattle.changes_statements.specs.StatementTexts.{HasOpen}
use Rattle.changes_statements.specs.declared.text_list.TextList.{TextList}
use Rattle.changes_statements.specs.declared.rows.Direction.{Direction}
use Rattle.changes_statements.specs.declared.rows.Direction.TheVariants as direction

-- the change of a row with these images: an image after the change alone is that of an inserted row, one before it that of a deleted row
abbrev pub change_of : {A : Type 0} → RowImages → A → A → RowChange A
change_of images.After first second = Inserted first
change_of images.Before first second = Deleted first
change_of _ first second = Updated first second

-- the change itself, or what takes it back
abbrev pub directed : {A : Type 0} → Direction → RowChange A → RowChange A
directed direction.Forward change = change
directed direction.Back change = turned_round change

-- the statement that makes a change of a row of a table was added to texts
pub record AddsStatement (table : SqlTable) (change : RowChange Cells) (texts : List (List ℕ)) (new : TextList) : Type 0 where
  pub text : List ℕ
  pub is : IsStatement table change text
  pub has : HasOpen new (texts ++ text ∷ []) []

-- ---- changes without a statement

-- the images lack a column that what takes the change back needs: a deleted row comes back with all columns, an updated one with those that it had
abbrev pub LacksBack : RowImages → Cells → Cells → Type 0
LacksBack images.After first second = ⊥
LacksBack images.Before first second = list_all is_some first ≡ false
LacksBack _ first second = (column : ℕ) × IsMissing first second column

-- a change that can't be taken back
abbrev pub IsOneWay : Direction → RowImages → Cells → Cells → NoStatement → Type 0
IsOneWay direction.Forward images first second e = ⊥
IsOneWay direction.Back images first second e = LacksBack images first second × (e ≡ Columns)

-- the second image of a row as its statement has it: what takes a change back has the columns that an update leaves as they were
abbrev pub IsSecond : Direction → RowImages → Cells → Cells → Cells → Type 0
IsSecond direction.Forward images first second filled = filled ≡ second
IsSecond direction.Back images first second filled = (LacksBack images first second → ⊥) × IsFilled second first filled

-- a row's change has no statement, or can't be taken back
abbrev pub HasNoRow : SqlTable → RowImages → Direction → Cells → Cells → Cells → NoStatement → Type 0
HasNoRow table images direction first second filled e =
    IsOneWay direction images first second e ⊎ (IsSecond direction images first second filled × HasNoStatement table (directed direction (change_of images first filled)) e)

-- whether a row is taken: a cell that is compared with a value may have no literal
abbrev pub HasNoTaken : SqlTable → Cells → Cells → NoStatement → Type 0
HasNoTaken table first second e = HasNoItems table.columns.items first e ⊎ HasNoItems table.columns.items second e

-- a row was left out, since there is no statement
pub record LeavesOut (table : SqlTable) (images : RowImages) (direction : Direction) (leaves_out : Bool) (first second filled : Cells) : Type 0 where
  pub asked : leaves_out ≡ true
  pub why : NoStatement
  pub none : HasNoRow table images direction first second filled why

-- the statement of a row was added, or the row was left out
pub record AddsRow (table : SqlTable) (images : RowImages) (direction : Direction) (first second filled : Cells) (old new : TextList) : Type 0 where
  pub second_is : IsSecond direction images first second filled
  pub adds : (texts : List (List ℕ)) → HasOpen old texts [] → AddsStatement table (directed direction (change_of images first filled)) texts new

abbrev pub TakesRow : SqlTable → RowImages → Direction → Bool → Cells → Cells → Cells → TextList → TextList → Type 0
TakesRow table images direction leaves_out first second filled old new =
    AddsRow table images direction first second filled old new ⊎ LeavesOut table images direction leaves_out first second filled
