-- What an event is to XA transactions (MySQL manual: XA Transaction SQL Statements; MySQL source documentation: Query_event, XA_prepare_event).
use Rattle.std.specs.Prelude.{◌+◌, ◌==◌, ◌&&◌, ◌||◌, ℕ, Bool, not, List, [], codes, length, drop, nat_le, nat_eq, slice_index, if◌then◌else◌}
use Rattle.std.specs.List.{starts_with}
use Rattle.std.specs.Str.{bytes_eq}
use Rattle.byteorder.specs.Endian.{little_number}
use Rattle.events_frames.specs.HeaderFields.{header_field}
use Rattle.events_replaced.specs.declared.xa_role.XaRole.{XaRole}
use Rattle.events_replaced.specs.declared.xa_role.XaRole.TheVariants as roles

-- the statement of a QUERY_EVENT: after its header (19) the length of the schema is at 8, that of the status variables at 11; these follow at 13, then the schema, a byte, and the statement
abbrev pub statement_of : List ℕ → List ℕ
statement_of event = if nat_le 33 (length event) then drop (33 + little_number 2 (drop 30 event) + slice_index event 27) event else []

-- what a statement is that begins with `XA `; the XID follows XA COMMIT and XA ROLLBACK
abbrev pub xa_role : List ℕ → XaRole
xa_role text =
    if starts_with nat_eq text (codes "XA START") then roles.Start
    else if starts_with nat_eq text (codes "XA END") then roles.End
    else if starts_with nat_eq text (codes "XA COMMIT ") then roles.Commit
    else if starts_with nat_eq text (codes "XA ROLLBACK ") then roles.Rollback
    else roles.Other

-- what a statement is
abbrev pub statement_role : List ℕ → XaRole
statement_role text =
    if starts_with nat_eq text (codes "XA ") then xa_role text
    else if bytes_eq text (codes "ROLLBACK") then roles.Drop
    else roles.Part

-- other events that are a part of the open transaction: XID_EVENT (16), TABLE_MAP_EVENT (19), PARTIAL_UPDATE_ROWS_EVENT (39), rows of version 1 (23 to 25), the text of a statement that changes rows (29), and rows (30 to 32)
abbrev pub is_part : ℕ → Bool
is_part number = number == 16 || number == 19 || number == 39 || (nat_le 23 number && nat_le number 25) || (nat_le 29 number && nat_le number 32)

-- what an event without its checksum is, by the number of its type: QUERY_EVENT (2), XA_PREPARE_LOG_EVENT (38), FORMAT_DESCRIPTION_EVENT (15), or others
abbrev pub role_by : ℕ → List ℕ → XaRole
role_by number event =
    if number == 2 then statement_role (statement_of event)
    else if number == 38 then roles.Prepare
    else if number == 15 then roles.Description
    else if is_part number then roles.Part
    else roles.None

abbrev pub role_of : List ℕ → XaRole
role_of event = role_by (header_field 4 1 event) event

-- whether an event is no statement, and neither prepares a transaction nor describes a format
abbrev pub is_indifferent : List ℕ → Bool
is_indifferent event = not (header_field 4 1 event == 2) && not (header_field 4 1 event == 38) && not (header_field 4 1 event == 15)
