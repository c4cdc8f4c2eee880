-- MariaDB's table maps as MySQL's servers write them: without the signs of YEAR columns (MySQL's source: Table_map_event; Format_description_event has the server's version after its header, 19, and its binlog version, 2).
use Rattle.std.specs.Prelude.{◌≡◌, ℕ, ◌+◌, ◌-◌, ◌==◌, Bool, false, List, codes, length, take, drop, nat_le, Option, Some, None, is_some, if◌then◌else◌}
use Rattle.memchr.specs.Find.{first_of, matches}
use Rattle.rows_constants.specs.EventTypes.{event_type_number}
use Rattle.rows_constants.specs.declared.event_type.EventType.TheVariants.{FORMAT_DESCRIPTION_EVENT}
use Rattle.events_frames.specs.HeaderFields.{header_field}
use Rattle.events_replaced.specs.GivenReplacements.{checksums_after}
use Rattle.table_schemas.specs.YearSigns.{Signs, mysql_fields, year_signs}
use Rattle.table_schemas.specs.CompletedMaps.{before_checksum, checksum_len, with_more}
use Rattle.table_schemas.specs.declared.described.Described.{Described}

-- ---- which logs are MariaDB's

-- the version of the server, in 50 bytes
abbrev pub server_version : List ℕ → List ℕ
server_version description = take 50 (drop 21 description)

-- it has the word MariaDB in it
abbrev pub describes_mariadb : List ℕ → Bool
describes_mariadb description = is_some (first_of (matches (server_version description) (codes "MariaDB") 0))

-- before a log's format description nothing is known
abbrev pub undescribed : Described
undescribed = record { has_checksum = false; is_mariadb = false }

-- what is known after an event: the newest format description counts
abbrev pub described_after : Described → List ℕ → Described
described_after d event =
    if header_field 4 1 event == event_type_number FORMAT_DESCRIPTION_EVENT
    then record { has_checksum = checksums_after d.has_checksum event; is_mariadb = describes_mariadb event }
    else d

-- ---- table maps

-- the bytes of an event before its checksum, right or not
abbrev pub unsummed : Bool → List ℕ → List ℕ
unsummed has_checksum event = take (length event - checksum_len has_checksum) event

-- those of a table map before its optional metadata
abbrev pub before_fields : List ℕ → Signs → List ℕ
before_fields event s = take (19 + (length (drop 19 event) - length s.fields)) event

-- these with other optional metadata; the table map itself, if that were longer than an event may be
abbrev pub mysql_if_short : Bool → List ℕ → List ℕ → List ℕ → List ℕ
mysql_if_short has_checksum event before fields = if nat_le (length before + length fields) 4294967291 then with_more has_checksum before fields else event

-- a table map with these signs of YEAR columns, by the bytes before its checksum, if that is right
abbrev pub mysql_if_checked : Bool → List ℕ → Signs → Option (List ℕ) → List ℕ
mysql_if_checked has_checksum event s None = event
mysql_if_checked has_checksum event s (Some bytes) = mysql_if_short has_checksum event (before_fields bytes s) (mysql_fields s)

-- a table map by its signs of YEAR columns, if it has such
abbrev pub mysql_if_signs : Bool → List ℕ → Option Signs → List ℕ
mysql_if_signs has_checksum event None = event
mysql_if_signs has_checksum event (Some s) = mysql_if_checked has_checksum event s (before_checksum has_checksum event)

-- a table map of MariaDB as MySQL's servers write it
abbrev pub mysql_map : Bool → List ℕ → List ℕ
mysql_map has_checksum event = mysql_if_signs has_checksum event (year_signs (drop 19 (unsummed has_checksum event)))

-- a table map in a log that is described so
abbrev pub mysql_map_in : Described → List ℕ → List ℕ
mysql_map_in d event = if d.is_mariadb then mysql_map d.has_checksum event else event
