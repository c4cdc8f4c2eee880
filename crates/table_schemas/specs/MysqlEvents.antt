-- What is given for the events of a log of MariaDB's: each table map as MySQL's servers write it, and the others as they are.
use Rattle.std.specs.Prelude.{◌≡◌, ◌==◌, ◌++◌, ℕ, Bool, false, List, if◌then◌else◌}
use Rattle.rows_constants.specs.EventTypes.{event_type_number}
use Rattle.rows_constants.specs.declared.event_type.EventType.TheVariants.{TABLE_MAP_EVENT}
use Rattle.events_frames.specs.Events.{has_event, IsWholeEvent}
use Rattle.events_frames.specs.HeaderFields.{header_field}
use Rattle.table_schemas.specs.MysqlTableMaps.{described_after, mysql_map_in}
use Rattle.table_schemas.specs.declared.described.Described.{Described}

-- whether an event is a table map
abbrev pub is_table_map : List ℕ → Bool
is_table_map event = header_field 4 1 event == event_type_number TABLE_MAP_EVENT

-- an event, as MySQL's servers write it if it is a table map
abbrev pub mysql_event : Described → List ℕ → List ℕ
mysql_event d event = if is_table_map event then mysql_map_in d event else event

-- what is given for the events that bytes begin with, and the bytes after them; what is known of the log before the first
pub data AreMysql : Described → List ℕ → List ℕ → Type 0 where
  mysql_rest : (d : Described) (own : List ℕ) → has_event own ≡ false → AreMysql d own own
  mysql_next : (d : Described) (event own rest : List ℕ) → IsWholeEvent event → AreMysql (described_after d event) own rest → AreMysql d (event ++ own) (mysql_event (described_after d event) event ++ rest)
