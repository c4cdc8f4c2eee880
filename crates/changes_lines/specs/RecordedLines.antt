-- What a recorder of JSON lines has.
use Rattle.std.specs.Prelude.{◌≡◌, ◌+◌, ℕ, Bool, true, false, List, [], ◌∷◌, ◌++◌, length, map, Option, IsSomeAnd, Ok, ◌<◌, ⊤}
use Rattle.std.specs.List.{flat_map, filter}
use Rattle.events_frames.specs.Headers.{Header, event_header_of}
use Rattle.rows_cells.specs.Images.{ImageShape}
use Rattle.rows_cells.specs.EventRows.{row_at}
use Rattle.rows_jsonb.specs.Items.{items_at}
use Rattle.rows_table_map.specs.TableMaps.{TableMap}
use Rattle.rows_event_body.specs.EventShapes.{event_shapes}
use Rattle.rows_event_body.specs.RowsEvents.{RowsBody}
use Rattle.rows_event_body.specs.RowsEventTypes.{images_of}
use Rattle.rows_event_body.specs.declared.rows_event_type.RowImages.{RowImages}
use Rattle.changes_tables.specs.ShownColumns.{column_view}
use Rattle.changes_tables.specs.TablesSoFar.{newest_table}
use Rattle.changes_tables.specs.declared.columns.TableOptions.{TableOptions}
use Rattle.changes_tables.specs.declared.tables.Lacks.{Lacks}
use Rattle.changes_tables.specs.declared.tables.ShownTable.{ShownTable}
use Rattle.feed_checks.specs.Kinds.{Gtid}
use Rattle.feed_transactions.specs.TableFilters.{takes_change}
use Rattle.feed_transactions.specs.Changes.{EventChange, OfRows, Committed}
use Rattle.feed_transactions.specs.MappedRows.{plan_by}
use Rattle.feed_transactions.specs.declared.table_filter.TableFilter.{TableFilter}
use Rattle.feed_transactions.specs.KeptGtids.{kept_gtid}
use Rattle.changes_lines.specs.ChangeLines.{ChangeJson, AreChangesJson, rows_back, rows_of_all}
use Rattle.changes_lines.specs.RecordedParts.{front_of}
use Rattle.changes_lines.specs.RowJson.{AreRowsJson}
use Rattle.changes_lines.specs.TextLists.{HasTexts, ended}
use Rattle.changes_lines.specs.FactMembers.{LogPlace, TransactionFacts, facts_of, numbered_if, query_member, query_in, transaction_members, with_resume}
use Rattle.changes_origins.specs.declared.added_members.AddedMembers.{AddedMembers}
use Rattle.changes_lines.specs.declared.recorder.JsonRecorder.{JsonRecorder}

-- the filter of a recorder, and the options that its tables are shown by
abbrev pub filter_of : JsonRecorder → TableFilter
filter_of s = s.filter

abbrev pub options_of : JsonRecorder → TableOptions
options_of s = s.tables.options

-- what the maps of its tables so far lack
abbrev pub lacks_in : JsonRecorder → Lacks
lacks_in s = s.tables.lacks

-- the members that its lines have on request, and their values for its transaction
abbrev pub added_of : JsonRecorder → AddedMembers
added_of s = s.facts.added

abbrev pub facts_in : JsonRecorder → TransactionFacts
facts_in s = facts_of s.facts

abbrev pub members_of : JsonRecorder → List ℕ
members_of s = transaction_members (added_of s) (facts_in s)

-- the same, and the place where reading can begin again
abbrev pub members_from : Option LogPlace → JsonRecorder → List ℕ
members_from resume s = transaction_members (added_of s) (with_resume resume (facts_in s))

-- the texts of a change: its front, its back, and its rows with the end of a line
abbrev pub change_texts : ChangeJson → List (List ℕ)
change_texts x = x.front ∷ x.back ∷ map ended x.rows

-- each of these changes has a row
abbrev pub HaveRows : List ChangeJson → Type 0
HaveRows [] = ⊤
HaveRows (x ∷ xs) = (0 < length x.rows) × HaveRows xs

-- the recorder has these changes
pub record HasChanges (s : JsonRecorder) (xs : List ChangeJson) : Type 0 where
  pub texts : HasTexts s.texts (flat_map change_texts xs) []
  pub rows : s.changes.items ≡ map (λ x. length x.rows) xs
  pub some : HaveRows xs

-- whether there is a change
abbrev pub has_some : List ChangeJson → Bool
has_some [] = false
has_some (x ∷ xs) = true

-- it has the open transaction with this GTID, and those of its changes that its filter takes
pub record IsOpenJson (s : JsonRecorder) (g : Option Gtid) (l : List EventChange) : Type 0 where
  pub gtid : kept_gtid s.gtid ≡ g
  pub changes : List ChangeJson
  pub rows : s.facts.rows ≡ rows_of_all l
  pub are : AreChangesJson s.tables.options s.facts.added l (filter (takes_change s.filter) l) changes
  pub has : HasChanges s changes

-- it has this committed transaction, with those of its changes that its filter takes
pub record IsDoneJson (s : JsonRecorder) (t : Committed) : Type 0 where
  pub opened : IsOpenJson s t.gtid t.changes
  pub commit : event_header_of s.commit ≡ t.commit

-- the filter, the options and the members on request are those of another recorder
pub record IsLikeJson (made s : JsonRecorder) : Type 0 where
  pub filter : s.filter ≡ made.filter
  pub options : s.tables.options ≡ made.tables.options
  pub added : s.facts.added ≡ made.facts.added

-- these and the GTID are unchanged
pub record KeepsOptions (old new : JsonRecorder) : Type 0 where
  pub filter : new.filter ≡ old.filter
  pub options : new.tables.options ≡ old.tables.options
  pub added : new.facts.added ≡ old.facts.added
  pub gtid : new.gtid ≡ old.gtid

-- the changes are unchanged
pub record KeepsTexts (old new : JsonRecorder) : Type 0 where
  pub texts : new.texts ≡ old.texts
  pub changes : new.changes ≡ old.changes
  pub rows : new.facts.rows ≡ old.facts.rows

-- a change was added, if it has a row
abbrev pub AddsJson : JsonRecorder → JsonRecorder → ChangeJson → Type 0
AddsJson old new x = (xs : List ChangeJson) → 0 < length x.rows → HasChanges old xs → HasChanges new (xs ++ x ∷ [])

-- the rows of a table were added
pub record AddsRowsOf (old new : JsonRecorder) (images : RowImages) (h : Header) (shapes : List ImageShape) (bytes : List ℕ) (table : ShownTable) : Type 0 where
  pub rows : List (List ℕ)
  pub are : AreRowsJson (map column_view table.columns.items) shapes (items_at (row_at shapes) bytes).items rows
  pub counts : (xs : List ChangeJson) → HasChanges old xs → new.facts.rows ≡ old.facts.rows + length rows
  pub adds : AddsJson old new (record { front = front_of images table h; back = rows_back table.key.items (query_member old.facts.added.query (query_in old.facts)); rows = numbered_if old.facts.added.row old.facts.rows rows })

-- the rows of the newest table were added
abbrev pub AddsRowsJson : JsonRecorder → JsonRecorder → RowImages → Header → List ImageShape → List ℕ → Type 0
AddsRowsJson old new images h shapes bytes = IsSomeAnd (newest_table old.tables) (AddsRowsOf old new images h shapes bytes)

-- the rows of an event of the table with this map were added if the filter takes them
abbrev pub TakesRows : JsonRecorder → JsonRecorder → Header → RowImages → TableMap → List ImageShape → List ℕ → Type 0
TakesRows old new h images m shapes bytes =
    (g : Option Gtid) (l : List EventChange) (r : RowsBody) → images ≡ images_of r.event_type → event_shapes r (plan_by m) ≡ Ok shapes → r.rows_data ≡ bytes → 0 < length bytes → IsOpenJson old g l
    → IsOpenJson new g (l ++ record { header = h; content = OfRows m r } ∷ [])
