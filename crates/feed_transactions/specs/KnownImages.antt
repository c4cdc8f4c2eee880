-- Rows events with the same column count and column bits, whose images have the same columns (MySQL Internals: Rows_event).
use Rattle.std.specs.Prelude.{◌≡◌, ◌⊎◌, ℕ, List, ◌++◌, length, Option, Some, Ok, Err, option_map}
use Rattle.byteorder.specs.Endian.{little_number}
use Rattle.rows_cells.specs.Images.{ImageShape}
use Rattle.rows_event_body.specs.ImageShapes.{TablePlan}
use Rattle.rows_event_body.specs.EventShapes.{event_shapes}
use Rattle.rows_event_body.specs.RowsEvents.{RowsBody, written_ctx}
use Rattle.rows_event_body.specs.RowsEventTypes.{images_of}
use Rattle.rows_event_body.specs.declared.rows_event_type.RowsEventType.{RowsEventType}
use Rattle.rows_errors.specs.Readings.{Reading}
use Rattle.rows_errors.specs.declared.fault.RowsError.{RowsError}
use Rattle.feed_checks.specs.declared.verdict.Verdict.{Verdict}
use Rattle.feed_checks.specs.declared.verdict.Verdict.TheVariants as verdicts
use Rattle.feed_checks.specs.BodyReaders.{rows_event_in}
use Rattle.feed_transactions.specs.declared.known_images.UsualRows.{UsualRows}
use Rattle.feed_transactions.specs.RowLines.{row_verdict}
use Rattle.feed_transactions.specs.MappedRows.{change_by}
use Rattle.feed_transactions.specs.RowTexts.{change_word}

-- the rows event with this table id and these flags in eight bytes, these fields up to its rows, and these rows
abbrev pub rows_event_of : RowsEventType → List ℕ → List ℕ → List ℕ → Option RowsBody
rows_event_of t head fields rows_data = rows_event_in (written_ctx t) (head ++ (fields ++ rows_data))

-- the event was read from this body
abbrev pub IsBodyOfRows : UsualRows → RowsBody → Type 0
IsBodyOfRows u r = rows_event_in (written_ctx u.event_type) u.body.now ≡ Some r

-- why the columns of an event's images aren't known: they have no plan, or out of memory
abbrev pub IsColumnsError : Reading (List ImageShape) → Verdict → Type 0
IsColumnsError shapes v = ((e : RowsError) × (v ≡ row_verdict e) × (shapes ≡ Err e)) ⊎ (v ≡ verdicts.Memory)

-- The images of each rows event of this type with these fields have these shapes by the plan; its lines begin with this text.
pub record KnowsImages (t : RowsEventType) (fields : List ℕ) (p : TablePlan) (shapes : List ImageShape) (names start : List ℕ) : Type 0 where
  pub table_ids : (head rows_data : List ℕ) → length head ≡ 8 → option_map (λ r. r.table_id) (rows_event_of t head fields rows_data) ≡ Some (little_number 6 head)
  pub rows : (head rows_data : List ℕ) → length head ≡ 8 → option_map (λ r. r.rows_data) (rows_event_of t head fields rows_data) ≡ Some rows_data
  pub shapes_are : (head rows_data : List ℕ) → length head ≡ 8 → option_map (λ r. event_shapes r p) (rows_event_of t head fields rows_data) ≡ Some (Ok shapes)
  pub start_is : start ≡ change_word (change_by (images_of t)) ++ names
