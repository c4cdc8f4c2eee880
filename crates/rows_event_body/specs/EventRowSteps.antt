-- The owned rows of an event, read one at a time.
use Rattle.std.specs.Borrow.{Bor}
use Rattle.std.specs.Prelude.{◌≡◌, ◌⊎◌, ⊤, ℕ, List, [], Option, Some, None}
use Rattle.std.specs.declared.result.Result.{Result}
use Rattle.std.specs.declared.result.Result.TheVariants.{Ok, Err}
use Rattle.rows_errors.specs.declared.fault.RowsError.{RowsError}
use Rattle.rows_errors.specs.declared.fault.RowsError.TheVariants.{Memory}
use Rattle.rows_cells.specs.Images.{ColumnValue}
use Rattle.rows_cells.specs.RowViews.{row_shape}
use Rattle.rows_cells.specs.declared.rows.RowPlan.{RowPlan}
use Rattle.rows_event_body.specs.declared.binlog_row.BinlogRow.{BinlogRow}
use Rattle.rows_event_body.specs.EventShapes.{event_shapes, row_read}
use Rattle.rows_event_body.specs.EventImages.{ReadsEventImages}
use Rattle.rows_event_body.specs.RowPairs.{TableView, mapped_table, planned_table, IsPair}
use Rattle.rows_event_body.specs.RowsEvents.{RowsBody}
use Rattle.rows_event_body.specs.Views.{body_of}
use Rattle.rows_event_body.specs.declared.event_images.EventImages.{EventImages}
use Rattle.rows_event_body.specs.declared.rows.Source.{Source}
use Rattle.rows_event_body.specs.declared.rows.Source.TheVariants.{Map, Plan}
use Rattle.rows_event_body.specs.declared.rows.RowsEventRows.{RowsEventRows}

-- the table with this plan
abbrev pub source_table : Source → TableView
source_table (Map map) = mapped_table map.now
source_table (Plan plan) = planned_table plan.now

-- the readers of the images, if they have been created
abbrev pub AreMade : TableView → RowsBody → Option EventImages → Type 0
AreMade t r None = ⊤
AreMade t r (Some images) = ReadsEventImages t r images

-- the rows in these bytes remain, of an event r on the table t
pub record IsBeforeRows (it : RowsEventRows) (t : TableView) (r : RowsBody) (bytes : List ℕ) : Type 0 where
  pub table_is : source_table it.source ≡ t
  pub event_is : body_of it.event.now ≡ r
  pub made : AreMade t r it.images
  pub rest_is : it.rest.now ≡ bytes

-- the row that the bytes begin with was returned, and those after it remain
pub record IsRowReturned (t : TableView) (r : RowsBody) (bytes : List ℕ) (pair : Option BinlogRow × Option BinlogRow) (new : RowsEventRows) : Type 0 where
  pub cells : List (List ColumnValue)
  pub rest : List ℕ
  pub read : row_read r t.plan bytes ≡ Ok (cells, rest)
  pub pair_is : IsPair t r cells pair
  pub after : IsBeforeRows new t r rest

-- the next row was returned; or it can't be read, or the call is out of memory, and no row follows; or no row remains
abbrev pub ReturnsRow : TableView → RowsBody → List ℕ → Option (Result (Option BinlogRow × Option BinlogRow) RowsError) → RowsEventRows → Type 0
ReturnsRow t r bytes None new = (bytes ≡ []) × IsBeforeRows new t r []
ReturnsRow t r bytes (Some (Ok pair)) new = IsRowReturned t r bytes pair new
ReturnsRow t r bytes (Some (Err e)) new = (e ≡ Memory ⊎ row_read r t.plan bytes ≡ Err e) × IsBeforeRows new t r []

abbrev pub TakesRow : RowsEventRows → Option (Result (Option BinlogRow × Option BinlogRow) RowsError) → RowsEventRows → Type 0
TakesRow old item new = (t : TableView) (r : RowsBody) (bytes : List ℕ) → IsBeforeRows old t r bytes → ReturnsRow t r bytes item new

-- the row that the bytes begin with was read, and this follows it
pub record ReadsNextRow (t : TableView) (r : RowsBody) (bytes : List ℕ) (pair : Option BinlogRow × Option BinlogRow) (rest : List ℕ) : Type 0 where
  pub cells : List (List ColumnValue)
  pub read : row_read r t.plan bytes ≡ Ok (cells, rest)
  pub pair_is : IsPair t r cells pair

abbrev pub IsNextRead : TableView → RowsBody → List ℕ → Result ((Option BinlogRow × Option BinlogRow) × Bor (List ℕ)) RowsError → Type 0
IsNextRead t r bytes (Ok x) = ReadsNextRow t r bytes x.0 x.1.now
IsNextRead t r bytes (Err e) = e ≡ Memory ⊎ row_read r t.plan bytes ≡ Err e

-- the row that the bytes begin with was read, or can't be
abbrev pub ReadsNext : RowsEventRows → Result ((Option BinlogRow × Option BinlogRow) × Bor (List ℕ)) RowsError → Type 0
ReadsNext it result = (t : TableView) (r : RowsBody) (bytes : List ℕ) → IsBeforeRows it t r bytes → IsNextRead t r bytes result

-- the readers of the images were created, or the error
abbrev pub Makes : TableView → RowsBody → Result ⊤ RowsError → RowsEventRows → Type 0
Makes t r (Ok x) new = ⊤
Makes t r (Err e) new = e ≡ Memory ⊎ event_shapes r t.plan ≡ Err e

abbrev pub MakesImages : RowsEventRows → Result ⊤ RowsError → RowsEventRows → Type 0
MakesImages old result new = (t : TableView) (r : RowsBody) (bytes : List ℕ) → IsBeforeRows old t r bytes → Makes t r result new × IsBeforeRows new t r bytes

-- the columns of the images, or the error
abbrev pub Plans : TableView → RowsBody → Result RowPlan RowsError → Type 0
Plans t r (Ok p) = event_shapes r t.plan ≡ Ok (row_shape p)
Plans t r (Err e) = e ≡ Memory ⊎ event_shapes r t.plan ≡ Err e

abbrev pub PlansImages : RowsEventRows → Result RowPlan RowsError → Type 0
PlansImages it result = (t : TableView) (r : RowsBody) (bytes : List ℕ) → IsBeforeRows it t r bytes → Plans t r result

-- these are the remaining bytes of the rows data
abbrev pub IsRest : RowsEventRows → List ℕ → Type 0
IsRest it rest = (t : TableView) (r : RowsBody) (bytes : List ℕ) → IsBeforeRows it t r bytes → rest ≡ bytes
