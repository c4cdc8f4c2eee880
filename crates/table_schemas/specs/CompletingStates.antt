-- The state of a source that gives table maps as MySQL's servers write them, and completed, and what it may give from there on.
use Rattle.std.specs.Prelude.{◌≡◌, ◌+◌, ◌*◌, ℕ, Bool, true, false, List, [], length, Option, if◌then◌else◌}
use Rattle.events_frames.specs.GivenEvents.{MayBe}
use Rattle.events_frames.specs.declared.event_error.EventError.{EventError}
use Rattle.events_frames.specs.declared.event_error.EventError.TheVariants as faults
use Rattle.table_schemas.specs.CompletedMaps.{Tables, tables_of}
use Rattle.table_schemas.specs.CompletedEvents.{GivesCompleted, completed_event}
use Rattle.table_schemas.specs.MysqlEvents.{mysql_event}
use Rattle.table_schemas.specs.MysqlTableMaps.{undescribed}
use Rattle.table_schemas.specs.declared.completed_events.CompletedEvents.{CompletedEvents}
use Rattle.table_schemas.specs.declared.completed_events.Newest.{Newest}
use Rattle.table_schemas.specs.declared.completed_events.Newest.TheVariants as newest
use Rattle.table_schemas.specs.declared.described.Described.{Described}

-- the other source
abbrev pub source_of : {S : Type 0} → CompletedEvents S → S
source_of s = s.source

-- the tables of the schema
abbrev pub tables_in : {S : Type 0} → CompletedEvents S → Tables
tables_in s = tables_of s.schemas.now

-- the newest event
abbrev pub newest_by : Newest → List ℕ → List ℕ → List ℕ → List ℕ
newest_by newest.Own own mysql completed = own
newest_by newest.Mysql own mysql completed = mysql
newest_by newest.Completed own mysql completed = completed
newest_by _ own mysql completed = []

abbrev pub newest_of : {S : Type 0} → (S → List ℕ) → CompletedEvents S → List ℕ
newest_of own s = newest_by s.newest (own s.source) s.mysql.event.items s.event.items

-- the bytes after it that are at hand: those of the other source, once it has no more events
abbrev pub at_hand_by : Newest → List ℕ → List ℕ
at_hand_by newest.Over own = own
at_hand_by _ own = []

abbrev pub at_hand_of : {S : Type 0} → (S → List ℕ) → CompletedEvents S → List ℕ
at_hand_of own s = at_hand_by s.newest (own s.source)

-- there is no newest event after an error of the other source; after a broken header its bytes are at hand
abbrev pub newest_after : EventError → Newest
newest_after faults.Frame = newest.Over
newest_after _ = newest.None

-- the newest event is a completed table map, or one as MySQL's servers write it, or else the other source's
abbrev pub newest_if : Bool → Bool → Newest
newest_if is_mysql_made true = newest.Completed
newest_if true false = newest.Mysql
newest_if false false = newest.Own

-- the newest event of the other source, if it is yet to be given
abbrev pub waiting_event : {S : Type 0} → (S → List ℕ) → CompletedEvents S → List ℕ
waiting_event own s = if s.waits then own s.source else []

-- how many calls may follow: two for each of the other source
abbrev pub calls_left : {S : Type 0} → (S → ℕ → ℕ) → CompletedEvents S → ℕ → ℕ
calls_left own s reads = 2 * own s.source reads + (if s.waits then 1 else 0)

-- what it may give, by what the other source may give if these bytes are left to its reader
abbrev pub GivesBy : {S : Type 0} → (S → List ℕ) → (S → Option (List ℕ) → MayBe) → CompletedEvents S → Option (List ℕ) → MayBe
GivesBy newest Own s left b = GivesCompleted (Own s.source left) (tables_in s) s.described (waiting_event newest s) b

-- nothing was given
pub record IsUnstarted {S : Type 0} (s : CompletedEvents S) : Type 0 where
  pub undescribed_is : s.described ≡ undescribed
  pub none : s.waits ≡ false

-- there is no newest event
abbrev pub HasNone : {S : Type 0} → CompletedEvents S → Type 0
HasNone s = s.newest ≡ newest.None

-- the newest event of the other source was given, as MySQL's servers write it, and completed if it is a table map; what is known of the log then
pub record GivesNow {S : Type 0} (own : S → List ℕ) (d : Described) (old new : CompletedEvents S) : Type 0 where
  pub source : new.source ≡ old.source
  pub tables : tables_in new ≡ tables_in old
  pub described_is : new.described ≡ d
  pub given : new.waits ≡ false
  pub event : newest_of own new ≡ completed_event (tables_in old) d.has_checksum (mysql_event d (own old.source))
  pub at_hand : (hand : S → List ℕ) → at_hand_of hand new ≡ []

-- memory ran out: the newest event of the other source is yet to be given
pub record WaitsNow {S : Type 0} (old new : CompletedEvents S) : Type 0 where
  pub source : new.source ≡ old.source
  pub tables : tables_in new ≡ tables_in old
  pub described : new.described ≡ old.described
  pub waits : new.waits ≡ true
  pub newest : new.newest ≡ newest.None

-- its newest event is the other source's, which is idle, none waits to be given, the log isn't MariaDB's, and there are no schemas
pub record IsIdleOver {S : Type 0} (IsIdle : S → Type 0) (s : CompletedEvents S) : Type 0 where
  pub own : s.newest ≡ newest.Own
  pub none : s.waits ≡ false
  pub mysql : s.described.is_mariadb ≡ false
  pub tables : length (tables_in s) ≡ 0
  pub below : IsIdle s.source
