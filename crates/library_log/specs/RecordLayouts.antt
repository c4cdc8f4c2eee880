-- Binary records as their readers read them (docs/library/RECORDS.md): little-endian numbers at offsets, texts after their lengths, and elements end to end after a head.
use Rattle.std.specs.Prelude.{◌≡◌, ◌+◌, ◌++◌, ℕ, Bool, List, [], ◌∷◌, codes, length, take, drop, nat_lt}
use Rattle.std.specs.List.{AllByRecursion, AllZip, filter, sum_by}
use Rattle.byteorder.specs.Endian.{little_bytes}
use Rattle.events_frames.specs.Headers.{Header}
use Rattle.events_frames.specs.QueryTexts.{StatementTexts}
use Rattle.rows_table_map.specs.TableMaps.{TableMap}
use Rattle.rows_event_body.specs.EventShapes.{event_rows}
use Rattle.rows_event_body.specs.RowsEvents.{RowsBody}
use Rattle.rows_event_body.specs.RowsEventTypes.{images_of}
use Rattle.rows_event_body.specs.declared.rows_event_type.RowImages.{RowImages}
use Rattle.rows_event_body.specs.declared.rows_event_type.RowImages.TheVariants.{After, Before, BeforeAndAfter, BeforeAndPartialAfter}
use Rattle.feed_checks.specs.EventFields.{number_at}
use Rattle.feed_checks.specs.LogFormat.{joined}
use Rattle.feed_transactions.specs.Changes.{Content, OfRows, OfStatement, EventChange, Committed}
use Rattle.feed_transactions.specs.MappedRows.{plan_by}
use Rattle.changes_origins.specs.GtidJson.{IsGtidJson}

-- ---- texts: the length in eight bytes, then the bytes

abbrev pub text_bytes : List ℕ → List ℕ
text_bytes text = little_bytes 8 (length text) ++ text

-- the text at an offset, and the offset after it
abbrev pub text_at : ℕ → List ℕ → List ℕ
text_at offset bytes = take (number_at offset 8 bytes) (drop (offset + 8) bytes)

abbrev pub text_end : ℕ → List ℕ → ℕ
text_end offset bytes = offset + 8 + number_at offset 8 bytes

-- ---- elements: a head of 16 bytes, and a content

-- the kind of an element, and the index of its table
abbrev pub kind_in : List ℕ → ℕ
kind_in e = number_at 0 4 e

abbrev pub table_in : List ℕ → ℕ
table_in e = number_at 4 4 e

-- it has as many bytes as its head says
abbrev pub IsElement : List ℕ → Type 0
IsElement e = length e ≡ 16 + number_at 8 8 e

-- elements of the kinds 1 to 4 are changes; a table has the kind 5
abbrev pub is_change : List ℕ → Bool
is_change e = nat_lt (kind_in e) 5

-- the kind of rows with these images
abbrev pub rows_kind : RowImages → ℕ
rows_kind After = 1
rows_kind BeforeAndAfter = 2
rows_kind BeforeAndPartialAfter = 2
rows_kind Before = 3

-- how many rows a change has; a statement counts as one
abbrev pub row_count : Content → ℕ
row_count (OfRows m r) = length (event_rows r (plan_by m)).items
row_count (OfStatement q) = 1

-- the element has the rows of an event: their number
pub record HasRows (m : TableMap) (r : RowsBody) (e : List ℕ) : Type 0 where
  pub kind : kind_in e ≡ rows_kind (images_of r.event_type)
  pub count : number_at 24 8 e ≡ row_count (OfRows m r)

-- the element has a statement: its database and its text
pub record HasStatement (q : StatementTexts) (e : List ℕ) : Type 0 where
  pub kind : kind_in e ≡ 4
  pub table : table_in e ≡ 0
  pub schema : text_at 24 e ≡ q.schema
  pub query : text_at (text_end 24 e) e ≡ q.query
  pub end : text_end (text_end 24 e) e ≡ length e

abbrev pub HasContent : Content → List ℕ → Type 0
HasContent (OfRows m r) e = HasRows m r e
HasContent (OfStatement q) e = HasStatement q e

-- the element has a change: the time of its event, and the position after that
pub record HasChange (c : EventChange) (e : List ℕ) : Type 0 where
  pub time : number_at 16 4 e ≡ c.header.timestamp
  pub position : number_at 20 4 e ≡ c.header.log_pos
  pub content : HasContent c.content e

-- the bytes are elements end to end, and those that are changes have these, in their order
pub record AreElements (changes : List EventChange) (bytes : List ℕ) : Type 0 where
  pub elements : List (List ℕ)
  pub joined_are : bytes ≡ joined elements
  pub whole : AllByRecursion IsElement elements
  pub changes_are : AllZip HasChange changes (filter is_change elements)

-- elements with these changes were appended
pub record AppendsElements (changes : List EventChange) (old new : List ℕ) : Type 0 where
  pub bytes : List ℕ
  pub appended : new ≡ old ++ bytes
  pub are : AreElements changes bytes

-- ---- the head

-- the text of a GTID: of a JSON string its content, no bytes for null, and an object as it is
pub data IsTextOf : List ℕ → List ℕ → Type 0 where
  of_null : IsTextOf (codes "null") []
  of_string : (text : List ℕ) → IsTextOf (34 ∷ (text ++ 34 ∷ [])) text
  of_object : (rest : List ℕ) → IsTextOf (123 ∷ rest) (123 ∷ rest)

-- the bytes are the record of a transaction with these changes, which begins at this position
pub record IsRecord (begin : ℕ) (t : Committed) (changes : List EventChange) (bytes : List ℕ) : Type 0 where
  pub version : number_at 0 4 bytes ≡ 1
  pub head_len : number_at 4 4 bytes ≡ 64
  pub len : number_at 8 8 bytes ≡ length bytes
  pub changes_are : number_at 16 8 bytes ≡ length changes
  pub rows_are : number_at 24 8 bytes ≡ sum_by (λ c. row_count c.content) changes
  pub begin_is : number_at 32 4 bytes ≡ begin
  pub position : number_at 36 4 bytes ≡ t.commit.log_pos
  pub time : number_at 40 4 bytes ≡ t.commit.timestamp
  pub server_id : number_at 44 4 bytes ≡ t.commit.server_id
  pub flags : number_at 48 8 bytes ≡ 0
  pub gtid : (json : List ℕ) × IsGtidJson t.gtid json × IsTextOf json (text_at 56 bytes)
  pub elements : AreElements changes (drop (text_end 56 bytes) bytes)
