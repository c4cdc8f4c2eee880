-- What the events of a transaction say of its thread and its XID (MySQL's pages of the classes Query_event and Xid_event): numbers after the header of 19 bytes.
use Rattle.std.specs.Prelude.{ℕ, ◌==◌, List, length, nat_lt, Option, Some, None, if◌then◌else◌}
use Rattle.events_frames.specs.HeaderFields.{header_field}

-- the id of the thread that wrote a QUERY_EVENT; 0 is none
abbrev pub thread_of : List ℕ → Option ℕ
thread_of e = if nat_lt (length e) 23 then None else (if header_field 19 4 e == 0 then None else Some (header_field 19 4 e))

-- the number of an XID_EVENT, whose type is 16; none of another event
abbrev pub xid_of : List ℕ → Option ℕ
xid_of e = if nat_lt (length e) 27 then None else (if header_field 4 1 e == 16 then Some (header_field 19 8 e) else None)
