-- The JSON of a row: an object of its columns, and for an update one of the columns that it changed (RFC 8259, section 4).
use Rattle.std.specs.Prelude.{◌≡◌, ⊤, ℕ, ◌<◌, List, [], ◌∷◌, ◌++◌, codes, slice_index_or}
use Rattle.std.specs.List.{flat_map}
use Rattle.rows_cells.specs.Images.{ColumnValue, ImageShape}
use Rattle.rows_cells.specs.declared.image.ImageColumn.{ImageColumn}
use Rattle.changes_tables.specs.ShownColumns.{ColumnView}
use Rattle.changes_tables.specs.declared.columns.Shown.TheVariants as shown
use Rattle.changes_cells.specs.CellJson.{IsCellJson}

-- the JSON of a cell, and its column's index in the table
pub record CellJson : Type 0 where
  pub column : ℕ
  pub json : List ℕ

-- the column of an index that has none; rows that can be read have no such index
abbrev pub no_column : ColumnView
no_column = record { key = []; shown = shown.Plain; members = [] }

-- the column with this index
abbrev pub column_at : List ColumnView → ℕ → ColumnView
column_at table i = slice_index_or table i no_column

-- one cell for each value of an image, in the formats of its columns
unfoldable pub AreCellsJson : List ColumnView → List ImageColumn → List ColumnValue → List CellJson → Type 0
AreCellsJson table [] [] [] = ⊤
AreCellsJson table (c ∷ cs) (v ∷ vs) (x ∷ xs) = (x.column ≡ v.column) × IsCellJson (column_at table v.column) c.format v.value x.json × AreCellsJson table cs vs xs
AreCellsJson table _ _ _ = ⊥

-- a member of an object: the key of its column, and the value
abbrev pub member_json : List ColumnView → CellJson → List ℕ
member_json table x = (column_at table x.column).key ++ x.json

-- members, each after a comma
abbrev pub more_members : List ColumnView → List CellJson → List ℕ
more_members table cells = flat_map (λ x. 44 ∷ member_json table x) cells

-- the start of an object, up to its last member; nothing if it has none
abbrev pub members_json : List ColumnView → List CellJson → List ℕ
members_json table [] = []
members_json table (x ∷ xs) = 123 ∷ (member_json table x ++ more_members table xs)

-- an object
abbrev pub object_json : List ColumnView → List CellJson → List ℕ
object_json table [] = codes "{}"
object_json table (x ∷ xs) = members_json table (x ∷ xs) ++ 125 ∷ []

-- all of these columns come after that one
abbrev pub IsBefore : ℕ → List CellJson → Type 0
IsBefore column [] = ⊤
IsBefore column (x ∷ xs) = column < x.column

-- The cells of the images before and after an update, side by side in the order of their columns: those of the row after it, each from the later image that has it; and those that it changed, from the image before.
pub data IsUpdate : List CellJson → List CellJson → List CellJson → List CellJson → Type 0 where
  none : IsUpdate [] [] [] []
  unset : {x : CellJson} {before after newest old : List CellJson} → IsBefore x.column after → IsUpdate before after newest old → IsUpdate (x ∷ before) after (x ∷ newest) old
  added : {y : CellJson} {before after newest old : List CellJson} → IsBefore y.column before → IsUpdate before after newest old → IsUpdate before (y ∷ after) (y ∷ newest) old
  same : {x y : CellJson} {before after newest old : List CellJson} → x.column ≡ y.column → x.json ≡ y.json → IsUpdate before after newest old → IsUpdate (x ∷ before) (y ∷ after) (y ∷ newest) old
  changed : {x y : CellJson} {before after newest old : List CellJson} → x.column ≡ y.column → (x.json ≡ y.json → ⊥) → IsUpdate before after newest old → IsUpdate (x ∷ before) (y ∷ after) (y ∷ newest) (x ∷ old)

-- the JSON of an update: the row after it, and what it changed
pub record IsUpdateJson (table : List ColumnView) (before after : List CellJson) (x : List ℕ) : Type 0 where
  pub newest : List CellJson
  pub old : List CellJson
  pub are : IsUpdate before after newest old
  pub is : x ≡ object_json table newest ++ (codes ",\"old\":" ++ object_json table old)

-- the JSON of a row with these images
abbrev pub IsRowJson : List ColumnView → List ImageShape → List (List ColumnValue) → List ℕ → Type 0
IsRowJson table (s ∷ []) (values ∷ []) x = (cells : List CellJson) × AreCellsJson table s.columns values cells × (x ≡ object_json table cells)
IsRowJson table (s ∷ t ∷ []) (before ∷ after ∷ []) x =
    (b : List CellJson) × (a : List CellJson) × AreCellsJson table s.columns before b × AreCellsJson table t.columns after a × IsUpdateJson table b a x
IsRowJson table shapes images x = ⊥

-- one for each row
unfoldable pub AreRowsJson : List ColumnView → List ImageShape → List (List (List ColumnValue)) → List (List ℕ) → Type 0
AreRowsJson table shapes [] [] = ⊤
AreRowsJson table shapes (row ∷ rows) (x ∷ xs) = IsRowJson table shapes row x × AreRowsJson table shapes rows xs
AreRowsJson table shapes _ _ = ⊥
