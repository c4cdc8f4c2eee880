-- The rows of MySQL's rows events under a table map: their texts, or the first fault.
use Rattle.std.specs.Prelude.{ℕ, true, false, List, [], ◌∷◌, length, map, Option, Some, None, Result, Ok, Err, ◌==◌}
use Rattle.rows_cells.specs.Images.{ColumnValue}
use Rattle.rows_jsonb.specs.Items.{Walked}
use Rattle.rows_errors.specs.Readings.{Reading, ◌>>=◌}
use Rattle.rows_table_map.specs.ColumnMetadata.{columns_with_metadata}
use Rattle.rows_table_map.specs.TableMaps.{TableMap}
use Rattle.rows_table_map.specs.Extracted.{extracted}
use Rattle.rows_table_map.specs.MetadataFields.{fields}
use Rattle.rows_event_body.specs.ImageShapes.{TablePlan}
use Rattle.rows_event_body.specs.Plans.{table_columns_of, first_columns}
use Rattle.rows_event_body.specs.PlanViews.{json_count}
use Rattle.rows_event_body.specs.EventShapes.{event_rows}
use Rattle.rows_event_body.specs.RowsEvents.{RowsBody}
use Rattle.rows_event_body.specs.RowsEventTypes.{images_of}
use Rattle.rows_event_body.specs.declared.rows_event_type.RowImages.{RowImages}
use Rattle.rows_event_body.specs.declared.rows_event_type.RowImages.TheVariants as images
use Rattle.feed_text.specs.ImageText.{cells_text}
use Rattle.feed_checks.specs.declared.verdict.Verdict.{Verdict}
use Rattle.feed_checks.specs.declared.verdict.Verdict.TheVariants as verdicts

-- how the rows of a table are read, by its table map
abbrev pub plan_by : TableMap → TablePlan
plan_by t = record {
  first =
      λ n. extracted (fields t.column_types t.optional_metadata) >>= λ e. first_columns (table_columns_of (columns_with_metadata t.column_types (Some t.metadata)) e) n;
  json_columns = json_count t.column_types;
}

-- what happened to a row
pub data Change : Type 0 where
  Insert : Change
  Update : Change
  Delete : Change

-- the change of a row with these images
abbrev pub change_by : RowImages → Change
change_by images.Before = Delete
change_by images.After = Insert
change_by images.BeforeAndAfter = Update
change_by images.BeforeAndPartialAfter = Update

-- the change of an event's rows
abbrev pub change_of : RowsBody → Change
change_of r = change_by (images_of r.event_type)

-- a changed row: the texts of the image before the change, the image after it, or both
pub record Row : Type 0 where
  pub on_rows : Change
  pub database : List ℕ
  pub table : List ℕ
  pub images : List (List ℕ)

-- the texts of images; an error if a JSON document in one can't be parsed
unfoldable pub image_texts : List (List ColumnValue) → Reading (List (List ℕ))
image_texts [] = Ok []
image_texts (image ∷ images) = do
  text ← cells_text image
  texts ← image_texts images
  Ok (text ∷ texts)

-- the texts of each row's images, if all cells can be printed
unfoldable pub row_texts : List (List (List ColumnValue)) → Reading (List (List (List ℕ)))
row_texts [] = Ok []
row_texts (row ∷ rows) = do
  texts ← image_texts row
  more ← row_texts rows
  Ok (texts ∷ more)

-- the value, if there is one
abbrev pub value_or_none : {A : Type 0} → Reading A → Option A
value_or_none (Ok x) = Some x
value_or_none (Err e) = None

-- the texts of all rows, if all can be read
abbrev pub walked_texts : Walked (List (List ColumnValue)) → Option (List (List (List ℕ)))
walked_texts w = elim w.fault [ None ↦ value_or_none (row_texts w.items) | Some e ↦ None ]

-- the texts of an event's rows, by the plan of its table
abbrev pub event_texts : RowsBody → TablePlan → Option (List (List (List ℕ)))
event_texts r p = walked_texts (event_rows r p)

-- the same, by its table map
unfoldable pub texts_of_rows : RowsBody → TableMap → Option (List (List (List ℕ)))
texts_of_rows r t = event_texts r (plan_by t)

-- the rows with these texts; without texts the fault `Row`
abbrev pub rows_by : RowsBody → TableMap → Option (List (List (List ℕ))) → Result (List Row) Verdict
rows_by r t None = Err verdicts.Row
rows_by r t (Some texts) = Ok (map (λ images. record { on_rows = change_of r; database = t.database; table = t.table; images = images }) texts)

-- the rows of an event; an event without rows data needs no table map
unfoldable pub rows_result : Option TableMap → RowsBody → Result (List Row) Verdict
rows_result m r = elim (length r.rows_data == 0) [
  | true ↦ Ok []
  | false ↦ elim m [ None ↦ Err verdicts.NoTableMap | Some t ↦ rows_by r t (texts_of_rows r t) ]
]

-- the fault, if there is one
abbrev pub fault_in : Result (List Row) Verdict → Option Verdict
fault_in (Ok rows) = None
fault_in (Err v) = Some v

-- the rows; the empty list after a fault
abbrev pub rows_in : Result (List Row) Verdict → List Row
rows_in (Ok rows) = rows
rows_in (Err v) = []
