-- The layout of row images by the plan of their table: the columns in each, and the formats of their cells (the crate, row.rs).
use Rattle.std.specs.Prelude.{ℕ, Bool, List, [], Option, Some, None, if◌then◌else◌}
use Rattle.std.specs.declared.result.Result.TheVariants.{Ok}
use Rattle.rows_errors.specs.Readings.{Reading, ◌>>=◌}
use Rattle.rows_cells.specs.Images.{ImageShape}
use Rattle.rows_table_map.specs.MapViews.{map_of}
use Rattle.rows_table_map.specs.declared.table_map.TableMapEvent.{TableMapEvent}
use Rattle.rows_event_body.specs.declared.plan.ColumnPlan.{ColumnPlan}
use Rattle.rows_event_body.specs.declared.image_columns.ImageColumns.{ImageColumns}
use Rattle.rows_event_body.specs.Plans.{PlannedColumn}
use Rattle.rows_event_body.specs.PlanViews.{planned, plan_of, json_count}
use Rattle.rows_event_body.specs.PickedColumns.{image_column, picked_as}

-- `first n` are the first n columns of the table, or the error; `json_columns` is the number of its JSON columns
pub record TablePlan : Type 0 where
  pub first : ℕ → Reading (List PlannedColumn)
  pub json_columns : ℕ

-- what images are read by, of a plan that the code has
abbrev pub table_plan : ColumnPlan → TablePlan
table_plan p = record { first = planned p.run; json_columns = p.json_columns }

-- the plan of a table map
abbrev pub map_plan : TableMapEvent → TablePlan
map_plan m = record { first = plan_of m; json_columns = json_count (map_of m).column_types }

-- the layout of an image with those of the first n columns whose bits are set
abbrev pub shape_picked : TablePlan → ℕ → Bool → (ℕ → Option Bool) → Reading ImageShape
shape_picked p n is_partial bit =
    picked_as image_column bit (p.first n) >>= λ columns. Ok (record { columns = columns; json_columns = if is_partial then Some p.json_columns else None })

abbrev pub shape_of : ImageColumns → ImageShape
shape_of c = record { columns = c.columns.items; json_columns = c.json_columns }

-- an image without columns
abbrev pub no_columns : ImageShape
no_columns = record { columns = []; json_columns = None }
