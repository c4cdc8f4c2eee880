-- What a recorder that counts rows has of a transaction: sums over those of its changes that a filter takes.
use Rattle.std.specs.Prelude.{◌≡◌, ℕ, Bool, true, false, List, [], ◌∷◌, ◌++◌, length, map, filter, Option, Result, Ok, Err, if◌then◌else◌}
use Rattle.std.specs.List.{flat_map}
use Rattle.events_frames.specs.Headers.{event_header_of}
use Rattle.rows_table_map.specs.TableMaps.{TableMap}
use Rattle.rows_event_body.specs.EventShapes.{event_shapes}
use Rattle.rows_event_body.specs.RowsEvents.{RowsBody}
use Rattle.rows_event_body.specs.RowsEventTypes.{images_of}
use Rattle.rows_cells.specs.Images.{ImageShape}
use Rattle.feed_checks.specs.Kinds.{Gtid}
use Rattle.feed_transactions.specs.Changes.{Content, OfRows, OfStatement, EventChange, Committed}
use Rattle.feed_transactions.specs.CheckedRows.{rows_count}
use Rattle.feed_transactions.specs.KeptGtids.{kept_gtid}
use Rattle.feed_transactions.specs.MappedRows.{plan_by}
use Rattle.feed_transactions.specs.TableFilters.{full_name, takes_change, takes_table}
use Rattle.feed_transactions.specs.declared.table_filter.TableFilter.{TableFilter}
use Rattle.changes_stats.specs.RowSums.{capped, of_event, sum_of_counts}
use Rattle.changes_stats.specs.TableSums.{AreSummed, NamedCounts, tables_in}
use Rattle.changes_stats.specs.declared.counts.RowCounts.{RowCounts}
use Rattle.changes_stats.specs.declared.recorder.StatsRecorder.{StatsRecorder}

-- the filter of a recorder
abbrev pub filter_of : StatsRecorder → TableFilter
filter_of s = s.filter

-- how many rows there are in bytes, by the layouts of their images if these are known
abbrev pub rows_by : {E : Type 0} → Result (List ImageShape) E → List ℕ → ℕ
rows_by (Ok shapes) bytes = rows_count shapes bytes
rows_by (Err e) bytes = 0

-- how many rows an event has, by the map of its table
abbrev pub rows_in : TableMap → RowsBody → ℕ
rows_in m r = rows_by (event_shapes r (plan_by m)) r.rows_data

-- the rows of a content, of a table with its full name; `bytes` is the size of its event
abbrev pub content_counts : ℕ → Content → List NamedCounts
content_counts bytes (OfRows m r) = record { name = full_name m.database m.table; counts = of_event (images_of r.event_type) (rows_in m r) bytes } ∷ []
content_counts bytes (OfStatement q) = []

-- those of changes, event by event
abbrev pub changes_counts : List EventChange → List NamedCounts
changes_counts l = flat_map (λ c. content_counts c.header.event_size c.content) l

-- whether a change is a statement
abbrev pub is_statement : Content → Bool
is_statement (OfRows m r) = false
is_statement (OfStatement q) = true

-- it has the sums of these rows, of all tables and table by table
pub record HasRows (s : StatsRecorder) (l : List NamedCounts) : Type 0 where
  pub all : s.all ≡ sum_of_counts (map (λ t. t.counts) l)
  pub tables : AreSummed (tables_in s.tables) l

-- rows of the table with this map were added, if the filter takes it
abbrev pub CountsRows : StatsRecorder → StatsRecorder → TableMap → RowCounts → Type 0
CountsRows old new m c =
    (l : List NamedCounts) → HasRows old l → HasRows new (l ++ (if takes_table old.filter m.database m.table then record { name = full_name m.database m.table; counts = c } ∷ [] else []))

-- it has the counts of these changes: the sums of their rows, and how many statements there are
pub record HasCounts (s : StatsRecorder) (l : List EventChange) : Type 0 where
  pub rows : HasRows s (changes_counts l)
  pub statements : s.statements ≡ capped (length (filter (λ c. is_statement c.content) l))

-- it has the open transaction with this GTID, and the counts of those of its changes that its filter takes
pub record IsOpenCounts (s : StatsRecorder) (g : Option Gtid) (l : List EventChange) : Type 0 where
  pub gtid : kept_gtid s.gtid ≡ g
  pub counts : HasCounts s (filter (takes_change s.filter) l)

-- it has this committed transaction, with the counts of those of its changes that its filter takes
pub record IsDoneCounts (s : StatsRecorder) (t : Committed) : Type 0 where
  pub opened : IsOpenCounts s t.gtid t.changes
  pub commit : event_header_of s.commit ≡ t.commit

-- its filter is that of the one it was made as
abbrev pub IsLikeCounts : StatsRecorder → StatsRecorder → Type 0
IsLikeCounts made s = s.filter ≡ made.filter
