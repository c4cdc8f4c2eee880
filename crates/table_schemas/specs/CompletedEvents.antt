-- What is given for the events of a log that a schema completes: each table map with the fields that it lacks, and the others as they are.
use Rattle.std.specs.Prelude.{◌≡◌, ◌++◌, ℕ, Bool, false, List, if◌then◌else◌}
use Rattle.events_frames.specs.Events.{has_event, IsWholeEvent}
use Rattle.events_frames.specs.GivenEvents.{MayBe}
use Rattle.events_replaced.specs.GivenReplacements.{checksums_after}
use Rattle.table_schemas.specs.CompletedMaps.{Tables, completed}
use Rattle.table_schemas.specs.MysqlEvents.{AreMysql, is_table_map}
use Rattle.table_schemas.specs.declared.described.Described.{Described}

-- an event, completed if it is a table map
abbrev pub completed_event : Tables → Bool → List ℕ → List ℕ
completed_event tables has_checksum event = if is_table_map event then completed tables has_checksum event else event

-- what is given for the events that bytes begin with, and the bytes after them; whether the first has a checksum
pub data AreCompleted (tables : Tables) : Bool → List ℕ → List ℕ → Type 0 where
  completed_rest : (has_checksum : Bool) (own : List ℕ) → has_event own ≡ false → AreCompleted tables has_checksum own own
  completed_next : (has_checksum : Bool) (event own rest : List ℕ) → IsWholeEvent event → AreCompleted tables (checksums_after has_checksum event) own rest → AreCompleted tables has_checksum (event ++ own) (completed_event tables (checksums_after has_checksum event) event ++ rest)

-- what is given for an event of another source that is yet to be given, if there is one, and for those that this source may give then: each as MySQL's servers write it, and then completed; what is known of the log
pub record GivesCompleted (Own : MayBe) (tables : Tables) (d : Described) (waiting : List ℕ) (b : List ℕ) : Type 0 where
  pub own : List ℕ
  pub gives : Own own
  pub mysql : List ℕ
  pub are_mysql : AreMysql d (waiting ++ own) mysql
  pub are : AreCompleted tables d.has_checksum mysql b
