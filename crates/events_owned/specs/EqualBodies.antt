-- Whether two bodies are equal: they have the same format, and are equal by that format's `==`.
use Rattle.std.specs.Prelude.{Bool, false, ◌&&◌, Option, Some}
use Rattle.events_bodies.specs.contracts.query_event.QueryEventPartialEq.TheImpl.{ghosts as queries}
use Rattle.events_frames.specs.contracts.rotate_event.RotateEventPartialEq.TheImpl.{ghosts as rotates}
use Rattle.events_bodies.specs.contracts.intvar_event.IntvarEventPartialEq.TheImpl.{ghosts as intvars}
use Rattle.events_bodies.specs.contracts.rand_event.RandEventPartialEq.TheImpl.{ghosts as rands}
use Rattle.events_bodies.specs.contracts.user_var_event.UserVarEventPartialEq.TheImpl.{ghosts as variables}
use Rattle.events_frames.specs.contracts.format_description.FormatDescriptionEventPartialEq.TheImpl.{ghosts as descriptions}
use Rattle.events_frames.specs.contracts.xid_event.XidEventPartialEq.TheImpl.{ghosts as xids}
use Rattle.events_bodies.specs.contracts.begin_load_query_event.BeginLoadQueryEventPartialEq.TheImpl.{ghosts as first_blocks}
use Rattle.events_bodies.specs.contracts.execute_load_query_event.ExecuteLoadQueryEventPartialEq.TheImpl.{ghosts as load_queries}
use Rattle.rows_table_map.specs.contracts.table_map.TableMapEventPartialEq.TheImpl.{ghosts as maps}
use Rattle.events_bodies.specs.contracts.incident_event.IncidentEventPartialEq.TheImpl.{ghosts as incidents}
use Rattle.events_bodies.specs.contracts.rows_query_event.RowsQueryEventPartialEq.TheImpl.{ghosts as row_queries}
use Rattle.events_bodies.specs.contracts.gtid_event.GtidEventPartialEq.TheImpl.{ghosts as gtids}
use Rattle.events_bodies.specs.contracts.anonymous_gtid_event.AnonymousGtidEventPartialEq.TheImpl.{ghosts as anonymous_gtids}
use Rattle.events_owned.specs.contracts.rows_event_data.RowsEventDataPartialEq.TheImpl.{ghosts as rows}
use Rattle.rows_constants.specs.contracts.event_type.EventTypePartialEq.TheImpl.{ghosts as types}
use Rattle.std.specs.Str.{bytes_eq}
use Rattle.events_owned.specs.declared.event_data.EventData.{EventData}
use Rattle.events_owned.specs.declared.event_data.EventData.TheVariants as read
use Rattle.events_owned.specs.RawBodies.{RawBody, raw_of}

-- whether two bodies without a format are of one type and have the same bytes
abbrev pub same_raw : Option RawBody → Option RawBody → Bool
same_raw (Some r) (Some s) = types.eq r.event_type s.event_type && bytes_eq r.bytes s.bytes
same_raw r s = false

-- whether two bodies are equal; the law `equal_bodies_say_the_same` ties it to their contents
unfoldable pub same_data : EventData → EventData → Bool
same_data (read.QueryEvent a) (read.QueryEvent b) = queries.eq a b
same_data (read.RotateEvent a) (read.RotateEvent b) = rotates.eq a b
same_data (read.IntvarEvent a) (read.IntvarEvent b) = intvars.eq a b
same_data (read.RandEvent a) (read.RandEvent b) = rands.eq a b
same_data (read.UserVarEvent a) (read.UserVarEvent b) = variables.eq a b
same_data (read.FormatDescriptionEvent a) (read.FormatDescriptionEvent b) = descriptions.eq a b
same_data (read.XidEvent a) (read.XidEvent b) = xids.eq a b
same_data (read.BeginLoadQueryEvent a) (read.BeginLoadQueryEvent b) = first_blocks.eq a b
same_data (read.ExecuteLoadQueryEvent a) (read.ExecuteLoadQueryEvent b) = load_queries.eq a b
same_data (read.TableMapEvent a) (read.TableMapEvent b) = maps.eq a b
same_data (read.IncidentEvent a) (read.IncidentEvent b) = incidents.eq a b
same_data (read.RowsQueryEvent a) (read.RowsQueryEvent b) = row_queries.eq a b
same_data (read.GtidEvent a) (read.GtidEvent b) = gtids.eq a b
same_data (read.AnonymousGtidEvent a) (read.AnonymousGtidEvent b) = anonymous_gtids.eq a b
same_data (read.RowsEvent a) (read.RowsEvent b) = rows.eq a b
same_data a b = same_raw (raw_of a) (raw_of b)
