-- The owned rows of an event: each as it was before the change, after it, or both.
use Rattle.std.specs.Prelude.{◌≡◌, ℕ, List, [], ◌∷◌, map, Option, Some, None}
use Rattle.std.specs.List.{AllZip}
use Rattle.std.specs.declared.result.Result.TheVariants.{Ok}
use Rattle.rows_values.specs.Columns.{parts_of}
use Rattle.rows_errors.specs.Readings.{Reading}
use Rattle.rows_cells.specs.Images.{ColumnValue}
use Rattle.rows_cells.specs.declared.image.ImageColumn.{ImageColumn}
use Rattle.rows_table_map.specs.MapViews.{map_of}
use Rattle.rows_table_map.specs.declared.table_map.TableMapEvent.{TableMapEvent}
use Rattle.rows_event_body.specs.PickedColumns.{image_column, definition, picked_as}
use Rattle.rows_event_body.specs.ImageShapes.{TablePlan, table_plan, map_plan}
use Rattle.rows_event_body.specs.declared.plan.ColumnPlan.{ColumnPlan}
use Rattle.rows_event_body.specs.OwnedRows.{row_values, row_columns, image_of}
use Rattle.rows_event_body.specs.RowImages.{IsHeld}
use Rattle.rows_event_body.specs.declared.binlog_row.BinlogRow.{BinlogRow}
use Rattle.rows_event_body.specs.EventShapes.{column_bit}
use Rattle.rows_event_body.specs.RowsEvents.{RowsBody}

-- what rows need of a table: its plan and its names
pub record TableView : Type 0 where
  pub plan : TablePlan
  pub database : List ℕ
  pub table : List ℕ

abbrev pub planned_table : ColumnPlan → TableView
planned_table p = record { plan = table_plan p; database = p.database.items; table = p.table.items }

abbrev pub mapped_table : TableMapEvent → TableView
mapped_table m = record { plan = map_plan m; database = (map_of m).database; table = (map_of m).table }

-- the columns of an image, by the bits that select them among n columns
abbrev pub columns_by : TableView → ℕ → List ℕ → Reading (List ImageColumn)
columns_by t n bits = picked_as image_column (column_bit n bits) (t.plan.first n)

-- the row of an image: a value for each cell, in order, the image's columns, and their definitions
pub record IsImageRow (t : TableView) (n : ℕ) (bits : List ℕ) (image : List ColumnValue) (row : BinlogRow) : Type 0 where
  pub values : AllZip IsHeld image (row_values row)
  pub columns : List ImageColumn
  pub columns_are : columns_by t n bits ≡ Ok columns
  pub columns_are_of : image_of row ≡ Some columns
  pub definitions : picked_as (definition t.database t.table) (column_bit n bits) (t.plan.first n) ≡ Ok (map parts_of (row_columns row))

-- the rows of a pair are those of its images
abbrev pub IsPairOf : TableView → ℕ → Option (List ℕ) → Option (List ℕ) → List (List ColumnValue) → Option BinlogRow × Option BinlogRow → Type 0
IsPairOf t n (Some before) (Some after) (first ∷ second ∷ []) (Some x, Some y) = IsImageRow t n before first x × IsImageRow t n after second y
IsPairOf t n (Some before) None (first ∷ []) (Some x, None) = IsImageRow t n before first x
IsPairOf t n None (Some after) (first ∷ []) (None, Some y) = IsImageRow t n after first y
IsPairOf t n before after images pair = ⊥

abbrev pub IsPair : TableView → RowsBody → List (List ColumnValue) → Option BinlogRow × Option BinlogRow → Type 0
IsPair t r images pair = IsPairOf t r.columns r.before r.after images pair
