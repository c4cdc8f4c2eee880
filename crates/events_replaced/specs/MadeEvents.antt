-- The events of MySQL that stand for MariaDB's own, as bytes: their header is MySQL's Binlog Event Header, and what they have is on the pages ANNOTATE_ROWS_EVENT, BINLOG_CHECKPOINT_EVENT, GTID_EVENT and GTID_LIST_EVENT of MariaDB's knowledge base.
use Rattle.std.specs.Prelude.{ℕ, ◌+◌, ◌/◌, ◌%◌, ◌==◌, Bool, List, [], ◌∷◌, ◌++◌, codes, length, take, drop, slice_index, if◌then◌else◌}
use Rattle.byteorder.specs.Endian.{little_bytes}

-- a header: time, type, server, size, position and flags; time, server and flags are those of another event, the position is 0
unfoldable pub header_made : ℕ → ℕ → List ℕ → List ℕ
header_made number size event = take 4 event ++ (number ∷ (take 4 (drop 5 event) ++ (little_bytes 4 size ++ (0 ∷ 0 ∷ 0 ∷ 0 ∷ take 2 (drop 17 event)))))

-- an event of this type with this body; the rest is that of another event
abbrev pub made : ℕ → List ℕ → List ℕ → List ℕ
made number body event = header_made number (19 + length body) event ++ body

-- a GTID: the byte 0, the domain, the server, the sequence number, and the rest of the GTID_EVENT, so that both have the same length. A sequence number (8) and a domain (4) follow the event's header (19), which has the server's id at 5
unfoldable pub gtid_body : List ℕ → List ℕ
gtid_body event = 0 ∷ (take 4 (drop 27 event) ++ (take 4 (drop 5 event) ++ (take 8 (drop 19 event) ++ drop 36 event)))

-- the next event is a statement that is no transaction: the flag FL_STANDALONE (1) of a GTID_EVENT, after the domain
abbrev pub is_standalone : List ℕ → Bool
is_standalone event = slice_index event 31 % 2 == 1

-- an XA transaction that is prepared follows: its flag FL_PREPARED_XA (64)
abbrev pub is_prepared_xa : List ℕ → Bool
is_prepared_xa event = slice_index event 31 / 64 % 2 == 1

-- a statement as the body of a QUERY_EVENT: thread (4), time (4), the length of the schema (1), error (2), the length of the status variables (2), the end of the schema, and the statement; all but the thread and the statement is 0
unfoldable pub statement_body : ℕ → List ℕ → List ℕ
statement_body thread_id statement = little_bytes 4 thread_id ++ (0 ∷ 0 ∷ 0 ∷ 0 ∷ 0 ∷ 0 ∷ 0 ∷ 0 ∷ 0 ∷ 0 ∷ statement)

-- the statement that begins what follows: XA START before an XA transaction that is prepared, else BEGIN
abbrev pub first_statement : List ℕ → List ℕ
first_statement event = if is_prepared_xa event then codes "XA START" else codes "BEGIN"

-- that statement, unless the next event is no transaction
abbrev pub begin_for : List ℕ → List (List ℕ)
begin_for event = if is_standalone event then [] else made 2 (statement_body 0 (first_statement event)) event ∷ []
