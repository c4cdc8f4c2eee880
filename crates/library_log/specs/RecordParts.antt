-- The bytes of a record's parts, in the order of their fields: what is appended before lengths and counts are known.
use Rattle.std.specs.Prelude.{◌≡◌, ◌<◌, ◌^◌, ◌++◌, ℕ, Bool, List, length}
use Rattle.byteorder.specs.Endian.{little_bytes}
use Rattle.std.specs.declared.result.Result.TheVariants.{Ok}
use Rattle.events_frames.specs.Headers.{Header}
use Rattle.feed_transactions.specs.Changes.{Committed}
use Rattle.changes_origins.specs.GtidJson.{IsGtidJson}
use Rattle.library_log.specs.RecordLayouts.{IsTextOf, text_bytes}
use Rattle.rows_cells.specs.declared.format.CellFormat.{CellFormat}
use Rattle.rows_cells.specs.CellValues.{CellValue}
use Rattle.rows_cells.specs.Images.{ColumnValue, ImageShape, field_at, image_at}
use Rattle.rows_cells.specs.EventRows.{images_at}

-- the head of an element, and what the contents of all changes begin with
abbrev pub change_head : ℕ → ℕ → ℕ → Header → List ℕ
change_head kind table len h = little_bytes 4 kind ++ (little_bytes 4 table ++ (little_bytes 8 len ++ (little_bytes 4 h.timestamp ++ little_bytes 4 h.log_pos)))

-- the numbers of a record's head
abbrev pub head_bytes : ℕ → ℕ → ℕ → ℕ → Header → List ℕ
head_bytes len changes rows begin h =
    little_bytes 4 1 ++ (little_bytes 4 64 ++ (little_bytes 8 len ++ (little_bytes 8 changes ++ (little_bytes 8 rows
    ++ (little_bytes 4 begin ++ (little_bytes 4 h.log_pos ++ (little_bytes 4 h.timestamp ++ (little_bytes 4 h.server_id ++ little_bytes 8 0))))))))

-- a change's numbers fit in their four bytes, and a record's
abbrev pub FitsChange : Header → Type 0
FitsChange h = (h.timestamp < 2 ^ 32) × (h.log_pos < 2 ^ 32)

abbrev pub FitsHead : ℕ → Header → Type 0
FitsHead begin h = (begin < 2 ^ 32) × (h.log_pos < 2 ^ 32) × (h.timestamp < 2 ^ 32) × (h.server_id < 2 ^ 32)

-- the head of a record was appended, with zeros for its length and its counts
pub record AppendsHead (begin : ℕ) (t : Committed) (old new : List ℕ) : Type 0 where
  pub gtid : List ℕ
  pub json : List ℕ
  pub is_json : IsGtidJson t.gtid json
  pub is_text : IsTextOf json gtid
  pub appended : new ≡ old ++ (head_bytes 0 0 0 begin t.commit ++ text_bytes gtid)
  pub small : FitsHead begin t.commit
  pub short : length gtid < 2 ^ 64

-- some bytes were appended
pub record Appends (old new : List ℕ) : Type 0 where
  pub bytes : List ℕ
  pub appended : new ≡ old ++ bytes

-- bytes begin with a cell, an image, a row, and `rest` are the bytes after it
abbrev pub ReadsCell : Bool → CellFormat → List ℕ → List ℕ → Type 0
ReadsCell is_null f bytes rest = (v : CellValue) × (field_at is_null f bytes ≡ Ok (v, rest))

abbrev pub ReadsImage : ImageShape → List ℕ → List ℕ → Type 0
ReadsImage s bytes rest = (cells : List ColumnValue) × (image_at s bytes ≡ Ok (cells, rest))

abbrev pub ReadsRow : List ImageShape → List ℕ → List ℕ → Type 0
ReadsRow shapes bytes rest = (images : List (List ColumnValue)) × (images_at shapes bytes ≡ Ok (images, rest))
