-- Rows as they are read, and the texts that the functions that write their JSON add.
use Rattle.std.specs.Prelude.{◌≡◌, ◌≤◌, ◌+◌, ℕ, Option, List, ◌++◌, length, Ok}
use Rattle.rows_cells.specs.Images.{ColumnValue, ImageShape}
use Rattle.rows_cells.specs.EventRows.{images_at, row_at}
use Rattle.rows_jsonb.specs.Items.{Walked, walk, items_at}
use Rattle.changes_tables.specs.ShownColumns.{ColumnView}
use Rattle.changes_lines.specs.RowJson.{IsRowJson, AreRowsJson}
use Rattle.changes_lines.specs.TextLists.{AddsRows}
use Rattle.changes_lines.specs.FactMembers.{numbered, numbered_by}
use Rattle.changes_lines.specs.declared.text_list.TextList.{TextList}

-- the row that the bytes begin with has this JSON, and `rest` are the bytes after it
pub record ReadsRow (table : List ColumnView) (shapes : List ImageShape) (bytes rest json : List ℕ) : Type 0 where
  pub images : List (List ColumnValue)
  pub read : images_at shapes bytes ≡ Ok (images, rest)
  pub is : IsRowJson table shapes images json

-- the JSON of the row that the bytes begin with was appended, and `rest` are the bytes after it
pub record AppendsRow (table : List ColumnView) (shapes : List ImageShape) (bytes rest old new : List ℕ) : Type 0 where
  pub json : List ℕ
  pub reads : ReadsRow table shapes bytes rest json
  pub appended : new ≡ old ++ json

-- rows, and those of a walk after them
abbrev pub after_rows : List (List (List ColumnValue)) → Walked (List (List ColumnValue)) → Walked (List (List ColumnValue))
after_rows rows w = record { items = rows ++ w.items; fault = w.fault }

-- the first rows of the bytes have this JSON, and `rest` are the bytes after them
pub record ReadsRows (table : List ColumnView) (shapes : List ImageShape) (bytes rest : List ℕ) (json : List (List ℕ)) : Type 0 where
  pub rows : List (List (List ColumnValue))
  pub steps : ℕ
  pub enough : length rest ≤ steps
  pub walked : walk (row_at shapes) (length bytes) bytes ≡ after_rows rows (walk (row_at shapes) steps rest)
  pub are : AreRowsJson table shapes rows json

-- the JSON of some more rows was added, one text for each row; `rest` are the bytes after them
pub record AddsRead (table : List ColumnView) (shapes : List ImageShape) (old : TextList) (middle rest : List ℕ) (new : TextList) : Type 0 where
  pub json : List (List ℕ)
  pub reads : (bytes : List ℕ) (before : List (List ℕ)) → ReadsRows table shapes bytes middle before → ReadsRows table shapes bytes rest (before ++ json)
  pub adds : AddsRows old new json

-- The JSON of some more rows was added, with their numbers, one text for each row. There were `first` rows before them, and then `last`.
pub record AddsNumbered (table : List ColumnView) (shapes : List ImageShape) (old : TextList) (middle : List ℕ) (first : ℕ) (rest : List ℕ) (last : ℕ) (new : TextList) : Type 0 where
  pub json : List (List ℕ)
  pub count : last ≡ first + length json
  pub reads : (bytes : List ℕ) (before : List (List ℕ)) → ReadsRows table shapes bytes middle before → ReadsRows table shapes bytes rest (before ++ json)
  pub adds : AddsRows old new (numbered first json)

-- the JSON of all rows was added
pub record AddsAllRead (table : List ColumnView) (shapes : List ImageShape) (bytes : List ℕ) (old new : TextList) : Type 0 where
  pub json : List (List ℕ)
  pub are : AreRowsJson table shapes (items_at (row_at shapes) bytes).items json
  pub adds : AddsRows old new json

-- the same, with their numbers if there is a numbering: the number of rows before them
pub record AddsAllRows (table : List ColumnView) (shapes : List ImageShape) (bytes : List ℕ) (numbering : Option ℕ) (old new : TextList) : Type 0 where
  pub json : List (List ℕ)
  pub are : AreRowsJson table shapes (items_at (row_at shapes) bytes).items json
  pub adds : AddsRows old new (numbered_by numbering json)
