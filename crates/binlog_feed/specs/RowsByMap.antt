-- The rows of a rows event under its table map (MySQL Internals: Rows_event).
use Rattle.std.specs.Prelude.{◌≡◌, List}
use Rattle.std.specs.declared.result.Result.TheVariants.{Ok}
use Rattle.wire_buf.specs.Encoding.{Alone}
use Rattle.rows_cells.specs.EventRows.{IsEventRow, row_at}
use Rattle.rows_cells.specs.Images.{ImageShape}
use Rattle.rows_event_body.specs.EventShapes.{event_rows, event_shapes}
use Rattle.rows_event_body.specs.RowsEvents.{RowsBody}
use Rattle.rows_jsonb.specs.Items.{Finds}
use Rattle.rows_table_map.specs.TableMaps.{TableMap}
use Rattle.feed_transactions.specs.MappedRows.{plan_by}

-- the rows data is consecutive rows, each of images with the columns that the map and the event's bits state
abbrev pub AreRowsOf : TableMap → RowsBody → Type 0
AreRowsOf t r = (shapes : List ImageShape) × (event_shapes r (plan_by t) ≡ Ok shapes) × Finds (Alone (IsEventRow shapes)) (row_at shapes) (event_rows r (plan_by t)) r.rows_data
