-- The rows of an event under its table map (MySQL Internals: Rows_event), as a recorder gets them.
use Rattle.std.specs.Prelude.{◌≡◌, List, ℕ, length, false, Some, Ok, ◌==◌}
use Rattle.rows_table_map.specs.TableMaps.{TableMap}
use Rattle.rows_table_map.specs.MapViews.{map_of}
use Rattle.rows_event_body.specs.EventShapes.{event_shapes}
use Rattle.rows_event_body.specs.EventColumnViews.{shapes_of}
use Rattle.rows_event_body.specs.RowsEvents.{RowsBody, written_ctx}
use Rattle.rows_event_body.specs.RowsEventTypes.{images_of}
use Rattle.rows_event_body.specs.declared.rows_event_type.RowsEventType.{RowsEventType}
use Rattle.feed_checks.specs.declared.verdict.Verdict.{Verdict}
use Rattle.feed_checks.specs.BodyReaders.{rows_event_in}
use Rattle.feed_transactions.specs.declared.tables.Tables.{Tables}
use Rattle.feed_transactions.specs.declared.planned_rows.PlannedRows.{PlannedRows}
use Rattle.feed_transactions.specs.MappedRows.{event_texts, plan_by}
use Rattle.feed_transactions.specs.RowLines.{PutsRows, IsRowsError}
use Rattle.feed_transactions.specs.RowTexts.{start_of}
use Rattle.feed_transactions.specs.Tables.{mapped}

-- The rows are those of an event with this body, which has rows, of a table with this map; the table knows the shapes of their images and the start of their lines.
pub record ArePlannedRows (k : PlannedRows) (r : RowsBody) (m : TableMap) : Type 0 where
  pub some : (length r.rows_data == 0) ≡ false
  pub images_are : k.images ≡ images_of r.event_type
  pub map_is : map_of k.table.now.map ≡ m
  pub rows_are : k.rows_data.now ≡ r.rows_data
  pub shapes_are : event_shapes r (plan_by m) ≡ Ok (shapes_of k.table.now.images.columns)
  pub start_is : k.table.now.images.start.items ≡ start_of r m

-- the rows of the event of this type with this body were found, and these tables have its table map
pub record FindsRows (s : Tables) (t : RowsEventType) (body : List ℕ) (k : PlannedRows) : Type 0 where
  pub rows : RowsBody
  pub map : TableMap
  pub is : rows_event_in (written_ctx t) body ≡ Some rows
  pub found : mapped s rows.table_id ≡ Some map
  pub has : ArePlannedRows k rows map

-- their lines were appended
abbrev pub PutsPlannedRows : PlannedRows → List ℕ → List ℕ → Type 0
PutsPlannedRows k before after = (r : RowsBody) (m : TableMap) → ArePlannedRows k r m → PutsRows r (plan_by m) (start_of r m) before after

-- why they weren't
abbrev pub IsPlannedRowsError : PlannedRows → Verdict → Type 0
IsPlannedRowsError k v = (r : RowsBody) (m : TableMap) → ArePlannedRows k r m → IsRowsError (event_texts r (plan_by m)) v
