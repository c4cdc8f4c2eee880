-- The cells of an image as they are read, and what the functions that write their JSON do.
use Rattle.std.specs.Prelude.{◌≡◌, ◌≤◌, ℕ, List, [], ◌∷◌, ◌++◌, codes}
use Rattle.std.specs.declared.result.Result.TheVariants.{Ok}
use Rattle.rows_cells.specs.CellValues.{CellValue}
use Rattle.rows_cells.specs.Images.{ColumnValue, ImageShape, field_at, image_at}
use Rattle.rows_cells.specs.ImageViews.{remaining_cells, columns_left, cells_count}
use Rattle.rows_cells.specs.declared.image.ImageCells.{ImageCells}
use Rattle.rows_cells.specs.declared.image.ImageColumn.{ImageColumn}
use Rattle.rows_cells.specs.declared.image.ImageField.{ImageField}
use Rattle.feed_text.specs.ImageText.{cells_then}
use Rattle.changes_tables.specs.ShownColumns.{ColumnView}
use Rattle.changes_cells.specs.CellJson.{IsCellJson}
use Rattle.changes_lines.specs.RowJson.{CellJson, AreCellsJson, column_at, members_json, more_members, object_json}
use Rattle.changes_lines.specs.declared.members.Separator.{Separator}
use Rattle.changes_lines.specs.declared.members.Separator.TheVariants as before

-- some cells were read, and this is their JSON; the others remain
pub record GivesJson (table : List ColumnView) (old new : ImageCells) (cells : List CellJson) : Type 0 where
  pub given : List ColumnValue
  pub columns : List ImageColumn
  pub read : remaining_cells old ≡ cells_then given (remaining_cells new)
  pub split : columns_left old ≡ columns ++ columns_left new
  pub are : AreCellsJson table columns given cells
  pub fewer : cells_count new ≤ cells_count old

-- the members of an object that has some, or none yet
abbrev pub members_after : List ColumnView → Separator → List CellJson → List ℕ
members_after table before.Brace cells = members_json table cells
members_after table before.Comma cells = more_members table cells

-- what is before the next member, after these
abbrev pub separator_after : Separator → List CellJson → Separator
separator_after s [] = s
separator_after s (x ∷ xs) = before.Comma

-- the byte of a separator
abbrev pub separator_byte : Separator → ℕ
separator_byte before.Brace = 123
separator_byte before.Comma = 44

-- the member of the cell that these bytes begin with was appended, and `rest` are the bytes after the cell
pub record AppendsMember (table : List ColumnView) (s : Separator) (f : ImageField) (rest old new : List ℕ) : Type 0 where
  pub value : CellValue
  pub json : List ℕ
  pub read : field_at f.is_null f.format f.bytes.now ≡ Ok (value, rest)
  pub is : IsCellJson (column_at table f.column) f.format value json
  pub appended : new ≡ old ++ separator_byte s ∷ ((column_at table f.column).key ++ json)

-- the image that the bytes begin with was read and its object appended, and `rest` are the bytes after the image
pub record AppendsImage (table : List ColumnView) (s : ImageShape) (bytes rest old new : List ℕ) : Type 0 where
  pub values : List ColumnValue
  pub json : List CellJson
  pub read : image_at s bytes ≡ Ok (values, rest)
  pub are : AreCellsJson table s.columns values json
  pub appended : new ≡ old ++ object_json table json

-- the end of an object, given what would be before its next member
abbrev pub separator_end : Separator → List ℕ
separator_end before.Brace = codes "{}"
separator_end before.Comma = codes "}"

-- the image that the bytes begin with was read, its cells have JSON, and `rest` are the bytes after the image
pub record ReadsImage (table : List ColumnView) (s : ImageShape) (bytes rest : List ℕ) : Type 0 where
  pub values : List ColumnValue
  pub json : List CellJson
  pub read : image_at s bytes ≡ Ok (values, rest)
  pub are : AreCellsJson table s.columns values json
