-- Reading an event's images into owned rows.
use Rattle.std.specs.Prelude.{◌≡◌, ℕ, Bool, false, List, [], ◌∷◌, map, Option, Some, None}
use Rattle.std.specs.Rc.{rc_slice_items}
use Rattle.std.specs.declared.result.Result.TheVariants.{Ok}
use Rattle.rows_values.specs.Columns.{parts_of}
use Rattle.rows_cells.specs.Images.{ColumnValue, ImageShape}
use Rattle.rows_cells.specs.EventRows.{images_at, row_at}
use Rattle.rows_event_body.specs.PickedColumns.{definition, picked_as}
use Rattle.rows_event_body.specs.RowImages.{image_read, IsRowOf}
use Rattle.rows_event_body.specs.declared.binlog_row.BinlogRow.{BinlogRow}
use Rattle.rows_event_body.specs.declared.row_image.RowImage.{RowImage}
use Rattle.rows_event_body.specs.EventShapes.{column_bit, shape_by}
use Rattle.rows_event_body.specs.RowPairs.{TableView}
use Rattle.rows_event_body.specs.RowsEventTypes.{images_of, has_partial_after}
use Rattle.rows_event_body.specs.RowsEvents.{RowsBody}
use Rattle.rows_event_body.specs.declared.event_images.EventImages.{EventImages}
use Rattle.rows_event_body.specs.declared.event_images.EventImages.TheVariants.{Before, After, Both}

-- the layouts of the images in a row
abbrev pub shapes_read : EventImages → List ImageShape
shapes_read (Before image) = image_read image ∷ []
shapes_read (After image) = image_read image ∷ []
shapes_read (Both before after) = image_read before ∷ image_read after ∷ []

-- the reader of the image whose columns these bits select
pub record ReadsImage (t : TableView) (n : ℕ) (is_partial : Bool) (bits : List ℕ) (image : RowImage) : Type 0 where
  pub shape : shape_by t.plan n is_partial bits ≡ Ok (image_read image)
  pub definitions : picked_as (definition t.database t.table) (column_bit n bits) (t.plan.first n) ≡ Ok (map parts_of (rc_slice_items image.definitions))

abbrev pub ReadsBoth : TableView → ℕ → Bool → Option (List ℕ) → Option (List ℕ) → EventImages → Type 0
ReadsBoth t n is_partial (Some before) None (Before image) = ReadsImage t n false before image
ReadsBoth t n is_partial None (Some after) (After image) = ReadsImage t n is_partial after image
ReadsBoth t n is_partial (Some before) (Some after) (Both first second) = ReadsImage t n false before first × ReadsImage t n is_partial after second
ReadsBoth t n is_partial before after images = ⊥

-- the readers of an event's images
abbrev pub ReadsEventImages : TableView → RowsBody → EventImages → Type 0
ReadsEventImages t r images = ReadsBoth t r.columns (has_partial_after (images_of r.event_type)) r.before r.after images

-- the rows of a pair were read from the images
abbrev pub HoldsPair : EventImages → List (List ColumnValue) → Option BinlogRow × Option BinlogRow → Type 0
HoldsPair (Before image) (first ∷ []) (Some x, None) = IsRowOf image first x
HoldsPair (After image) (first ∷ []) (None, Some y) = IsRowOf image first y
HoldsPair (Both before after) (first ∷ second ∷ []) (Some x, Some y) = IsRowOf before first x × IsRowOf after second y
HoldsPair images cells pair = ⊥

-- the images that the bytes begin with were read, and this follows them
pub record ReadsImages (images : EventImages) (bytes : List ℕ) (pair : Option BinlogRow × Option BinlogRow) (rest : List ℕ) : Type 0 where
  pub cells : List (List ColumnValue)
  pub read : images_at (shapes_read images) bytes ≡ Ok (cells, rest)
  pub holds : HoldsPair images cells pair

-- the row that the bytes begin with was read, and this follows it
pub record ReadsPair (images : EventImages) (bytes : List ℕ) (pair : Option BinlogRow × Option BinlogRow) (rest : List ℕ) : Type 0 where
  pub cells : List (List ColumnValue)
  pub read : row_at (shapes_read images) bytes ≡ Ok (cells, rest)
  pub holds : HoldsPair images cells pair
