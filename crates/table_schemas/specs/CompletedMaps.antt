-- Table maps that a schema completes: an event of the type TABLE_MAP_EVENT with more fields at the end of its optional metadata (MySQL Internals: Table_map_event; the header is MySQL's Binlog Event Header, with the size of the event at 9).
use Rattle.std.specs.Prelude.{◌≡◌, ℕ, ◌+◌, ◌-◌, ◌==◌, ◌&&◌, not, Bool, true, false, List, [], ◌∷◌, ◌++◌, length, map, take, drop, min, nat_le, Option, Some, None, is_none, if◌then◌else◌}
use Rattle.std.specs.List.{flat_map}
use Rattle.byteorder.specs.Endian.{little_bytes, little_number}
use Rattle.crc32.specs.Checksums.{crc32_of}
use Rattle.events_frames.specs.HeaderFields.{header_field}
use Rattle.rows_table_map.specs.TableMaps.{TableMap}
use Rattle.feed_checks.specs.BodyReaders.{table_map_in}
use Rattle.table_schemas.specs.SchemaFits.{first_difference}
use Rattle.table_schemas.specs.LoggedFields.{logged_kinds}
use Rattle.table_schemas.specs.declared.logged.Logged.{Logged}
use Rattle.table_schemas.specs.declared.schema_table.SchemaTable.{SchemaTable}
use Rattle.table_schemas.specs.declared.schema_start.SchemaStart.{SchemaStart}
use Rattle.table_schemas.specs.declared.schemas.SchemaFrom.{SchemaFrom}
use Rattle.table_schemas.specs.declared.schemas.Schemas.{Schemas}
use Rattle.table_schemas.specs.NamedTables.{NamedTables, named_in, table_named}

-- several schemas, each with where it begins, the newest first
abbrev pub Tables : Type 0
Tables = List SchemaFrom

-- those of a source of tables
abbrev pub tables_of : Schemas → Tables
tables_of s = s.schemas.items

-- these schemas, of which the one with this index begins there
abbrev pub begun_from : ℕ → SchemaStart → Tables → Tables
begun_from i start schemas = take i schemas ++ (map (λ s. record { start = start; schema = s.schema }) (take 1 (drop i schemas)) ++ drop 1 (drop i schemas))

-- whether an event isn't before a start: it has this time or a later one, and ends at this position or after it
abbrev pub has_begun : SchemaStart → List ℕ → Bool
has_begun start event = nat_le start.time (header_field 0 4 event) && nat_le start.position (header_field 13 4 event)

-- the start after a position, which has 32 bits
abbrev pub start_after : ℕ → SchemaStart
start_after position = record { time = 0; position = min (position + 1) 4294967295 }

-- the tables that an event has by a schema: all, if it isn't before where that begins
abbrev pub tables_from : List ℕ → SchemaFrom → NamedTables
tables_from event s = if has_begun s.start event then named_in s.schema else []

-- the tables that an event has by all of them, the newest first: of a table that several have the first counts
abbrev pub tables_at : Tables → List ℕ → NamedTables
tables_at schemas event = flat_map (tables_from event) schemas

-- the names in the body of a table map: after the table id and the flags, which are eight bytes; none is longer than 255 bytes
abbrev pub names_in : TableMap → List ℕ → List ℕ
names_in m body = take (min (length m.database) 255 + min (length m.table) 255 + 4) (drop 8 body)

-- bytes, unless they are had
abbrev pub unless_had : Bool → List ℕ → List ℕ
unless_had true bytes = []
unless_had false bytes = bytes

-- the fields of a table that a table map with these kinds of fields lacks: signs, collations, names, members, and the key
abbrev pub missing : Logged → SchemaTable → List ℕ
missing l t = unless_had l.signs t.signs.items ++ (unless_had l.collations t.collations.items ++ (unless_had l.names t.names.items ++ (unless_had l.members t.members.items ++ unless_had l.key t.key.items)))

-- the same, if the table fits the table map, and all fields of that can be read
abbrev pub missing_if_fits : TableMap → Option Logged → SchemaTable → List ℕ
missing_if_fits m None t = []
missing_if_fits m (Some l) t = if is_none (first_difference t.columns.items m) then missing l t else []

-- the same, if the schema has the table
abbrev pub missing_if_known : TableMap → Option SchemaTable → List ℕ
missing_if_known m None = []
missing_if_known m (Some t) = missing_if_fits m (logged_kinds m) t

-- the same by the body of the table map, if that can be read
abbrev pub missing_if_read : NamedTables → List ℕ → Option TableMap → List ℕ
missing_if_read tables body None = []
missing_if_read tables body (Some m) = missing_if_known m (table_named (names_in m body) tables)

-- the fields that complete a table map, which is without its checksum
abbrev pub missing_fields : Tables → List ℕ → List ℕ
missing_fields tables event = missing_if_read (tables_at tables event) (drop 19 event) (table_map_in 8 (drop 19 event))

-- the bytes of an event before its checksum; None if that is wrong
abbrev pub before_checksum : Bool → List ℕ → Option (List ℕ)
before_checksum false event = Some event
before_checksum true event =
    if nat_le 23 (length event) && (crc32_of (take (length event - 4) event) == little_number 4 (drop (length event - 4) event)) then Some (take (length event - 4) event)
    else None

-- the length of a checksum, if the log's events have one
abbrev pub checksum_len : Bool → ℕ
checksum_len has_checksum = if has_checksum then 4 else 0

-- an event with more bytes at its end, before its checksum
abbrev pub lengthened : Bool → List ℕ → List ℕ → List ℕ
lengthened has_checksum event more = take 9 event ++ (little_bytes 4 (length event + length more + checksum_len has_checksum) ++ (drop 13 event ++ more))

-- the same with its checksum, if the log's events have one
abbrev pub with_more : Bool → List ℕ → List ℕ → List ℕ
with_more true event more = lengthened true event more ++ little_bytes 4 (crc32_of (lengthened true event more))
with_more false event more = lengthened false event more

-- whether more bytes are added: there are such, and the event's size fits in 32 bits
abbrev pub is_lengthened : List ℕ → List ℕ → Bool
is_lengthened event more = not (length more == 0) && nat_le (length event + length more) 4294967291

-- an event, whose bytes before the checksum are `bytes`, with more bytes
abbrev pub completed_by : Bool → List ℕ → List ℕ → List ℕ → List ℕ
completed_by has_checksum event bytes more = if is_lengthened bytes more then with_more has_checksum bytes more else event

-- the same by the bytes before the checksum, if that is right
abbrev pub completed_if_checked : Tables → Bool → List ℕ → Option (List ℕ) → List ℕ
completed_if_checked tables has_checksum event None = event
completed_if_checked tables has_checksum event (Some bytes) = completed_by has_checksum event bytes (missing_fields tables bytes)

-- a table map with the fields that it lacks and the schema has
abbrev pub completed : Tables → Bool → List ℕ → List ℕ
completed tables has_checksum event = completed_if_checked tables has_checksum event (before_checksum has_checksum event)
