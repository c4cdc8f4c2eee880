-- An update while it is written: the members of the image before it, those of the row after it, and those that it changed.
use Rattle.std.specs.Prelude.{◌≡◌, ◌+◌, ◌<◌, ◌≤◌, ⊤, ℕ, List, [], ◌∷◌, ◌++◌, length, Ok}
use Rattle.std.specs.List.{AllZip}
use Rattle.feed_text.specs.Buffers.{text_in}
use Rattle.rows_cells.specs.CellValues.{CellValue}
use Rattle.rows_cells.specs.Images.{ColumnValue, ImageShape, field_at, image_at}
use Rattle.rows_cells.specs.declared.image.ImageField.{ImageField}
use Rattle.changes_tables.specs.ShownColumns.{ColumnView}
use Rattle.changes_cells.specs.CellJson.{IsCellJson}
use Rattle.changes_lines.specs.RowJson.{CellJson, AreCellsJson, column_at, members_json, object_json, IsUpdate}
use Rattle.changes_lines.specs.ReadCells.{members_after, separator_after}
use Rattle.changes_lines.specs.declared.members.Separator.{Separator}
use Rattle.changes_lines.specs.declared.updates.Member.{Member}
use Rattle.changes_lines.specs.declared.updates.Before.{Before}

-- the member of this cell is there in a text
pub record IsMember (table : List ColumnView) (text : List ℕ) (m : Member) (x : CellJson) : Type 0 where
  pub first : List ℕ
  pub last : List ℕ
  pub parts : text ≡ first ++ ((column_at table x.column).key ++ (x.json ++ last))
  pub column : m.column ≡ x.column
  pub start : m.start ≡ length first
  pub value : m.value ≡ length first + length (column_at table x.column).key
  pub end : m.end ≡ m.value + length x.json

-- the members of these cells
abbrev pub AreMembers : List ColumnView → List ℕ → List Member → List CellJson → Type 0
AreMembers table text members cells = AllZip (IsMember table text) members cells

-- the cell that the bytes of a field begin with has this JSON, and `rest` are the bytes after it
pub record ReadsCell (table : List ColumnView) (f : ImageField) (rest json : List ℕ) : Type 0 where
  pub value : CellValue
  pub read : field_at f.is_null f.format f.bytes.now ≡ Ok (value, rest)
  pub is : IsCellJson (column_at table f.column) f.format value json

-- the JSON of the cell of a field, with its column
abbrev pub cell_of : ImageField → List ℕ → CellJson
cell_of f json = record { column = f.column; json = json }

-- the member of the cell that a field begins with was added to those in a text
pub record KeepsMember (table : List ColumnView) (f : ImageField) (rest old new : List ℕ) (members more : List Member) : Type 0 where
  pub json : List ℕ
  pub reads : ReadsCell table f rest json
  pub add : (cells : List CellJson) → AreMembers table old members cells → AreMembers table new more (cells ++ cell_of f json ∷ [])

-- the image before an update has these cells, and none is known to be changed
pub record HasBefore (table : List ColumnView) (b : Before) (cells : List CellJson) : Type 0 where
  pub members : AreMembers table (text_in b.text) b.members.items cells
  pub none : text_in b.changed ≡ []

-- the image that the bytes begin with was read, and its cells were kept
pub record ReadsBefore (table : List ColumnView) (s : ImageShape) (bytes rest : List ℕ) (b : Before) : Type 0 where
  pub values : List ColumnValue
  pub cells : List CellJson
  pub read : image_at s bytes ≡ Ok (values, rest)
  pub are : AreCellsJson table s.columns values cells
  pub has : HasBefore table b cells

-- some cells come before a column; and the first of the others doesn't
abbrev pub AreBefore : ℕ → List CellJson → Type 0
AreBefore column [] = ⊤
AreBefore column (x ∷ xs) = (x.column < column) × AreBefore column xs

abbrev pub IsFrom : ℕ → List CellJson → Type 0
IsFrom column [] = ⊤
IsFrom column (x ∷ xs) = column ≤ x.column

-- the members of the first cells, which come before a column, were appended
pub record PutsFirst (table : List ColumnView) (text : List ℕ) (column : ℕ) (s then : Separator) (left : List Member) (cells : List CellJson) (old new : List ℕ) : Type 0 where
  pub unset : List CellJson
  pub others : List CellJson
  pub split : cells ≡ unset ++ others
  pub before : AreBefore column unset
  pub from : IsFrom column others
  pub members : AreMembers table text left others
  pub appended : new ≡ old ++ members_after table s unset
  pub separator : then ≡ separator_after s unset

-- the members of cells were appended
pub record PutsAll (table : List ColumnView) (s then : Separator) (cells : List CellJson) (old new : List ℕ) : Type 0 where
  pub appended : new ≡ old ++ members_after table s cells
  pub separator : then ≡ separator_after s cells

-- The cell after the update was compared with that of its column, if the cells begin with it. What is left of them, and what the update changed.
pub record Compares (table : List ColumnView) (text : List ℕ) (y : CellJson) (left : List Member) (cells changed : List CellJson) (new : List ℕ) : Type 0 where
  pub others : List CellJson
  pub more : List CellJson
  pub members : AreMembers table text left others
  pub changes : new ≡ members_json table (changed ++ more)
  pub update : (after newest old : List CellJson) → IsUpdate others after newest old → IsUpdate cells (y ∷ after) (y ∷ newest) (more ++ old)

-- The next cell of the row after an update was appended, after those that the update didn't set, and compared.
pub record StepsOver (table : List ColumnView) (text : List ℕ) (y : CellJson) (s : Separator) (left : List Member) (cells changed : List CellJson) (old new changes : List ℕ) : Type 0 where
  pub unset : List CellJson
  pub others : List CellJson
  pub more : List CellJson
  pub members : AreMembers table text left others
  pub appended : new ≡ old ++ members_after table s (unset ++ y ∷ [])
  pub changes_are : changes ≡ members_json table (changed ++ more)
  pub update : (after newest old : List CellJson) → IsUpdate others after newest old → IsUpdate cells (y ∷ after) (unset ++ y ∷ newest) (more ++ old)

-- The image after an update was read: its cells, those of the row after the update, whose object was appended, and those that it changed, whose members are kept.
pub record AppendsAfter (table : List ColumnView) (s : ImageShape) (bytes rest : List ℕ) (old new : List ℕ) (before : List CellJson) (changes : List ℕ) : Type 0 where
  pub values : List ColumnValue
  pub cells : List CellJson
  pub newest : List CellJson
  pub changed : List CellJson
  pub read : image_at s bytes ≡ Ok (values, rest)
  pub are : AreCellsJson table s.columns values cells
  pub update : IsUpdate before cells newest changed
  pub appended : new ≡ old ++ object_json table newest
  pub changes_are : changes ≡ members_json table changed
