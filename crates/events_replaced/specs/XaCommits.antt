-- The COMMIT of an XA transaction, which has its XID in a status variable (MySQL source documentation: Query_event).
use Rattle.std.specs.Prelude.{◌+◌, ◌&&◌, ◌++◌, ◌∷◌, [], ℕ, Bool, List, codes, length, nat_le, if◌then◌else◌}
use Rattle.byteorder.specs.Endian.{little_bytes}
use Rattle.events_replaced.specs.MadeEvents.{made, statement_body}

-- COMMIT, with the time and the server of an event
abbrev pub commit_made : List ℕ → List ℕ
commit_made event = made 2 (statement_body 0 (codes "COMMIT")) event

-- the body of a QUERY_EVENT with COMMIT and the status variable 255, which is the XID and is the last: thread (4), time (4), the length of the schema (1), error (2), the length of the status variables (2), these, the end of the schema, and the statement
unfoldable pub xid_body : List ℕ → List ℕ
xid_body xid = 0 ∷ 0 ∷ 0 ∷ 0 ∷ 0 ∷ 0 ∷ 0 ∷ 0 ∷ 0 ∷ 0 ∷ 0 ∷ (little_bytes 2 (length xid + 1) ++ (255 ∷ (xid ++ (0 ∷ codes "COMMIT"))))

-- an XID of a server has at most 274 bytes; a transaction of 4 GB leaves no room for one
abbrev pub has_room : List ℕ → List ℕ → Bool
has_room events xid = nat_le (length events) 4294966784 && nat_le (length xid) 274

-- the COMMIT after the events of a transaction with this XID
abbrev pub commit_of : List ℕ → List ℕ → List ℕ → List ℕ
commit_of events xid event = if has_room events xid then made 2 (xid_body xid) event else commit_made event
