-- Worked examples: small logs, and what their events show. An event is written as its type, its position (that after it in the log), and its body.
use Rattle.std.specs.Prelude.{ℕ, ◌+◌, List, [], ◌∷◌, ◌++◌, length, drop, replicate, codes, Option}
use Rattle.std.specs.Int.{w32, to_le_bytes}
use Rattle.feed_checks.specs.declared.verdict.Verdict.{Verdict}
use Rattle.feed_checks.specs.EventFields.{Event, type_of}
use Rattle.feed_transactions.specs.Rules.{rules, shown, first_fault}
use Rattle.feed_transactions.specs.TransactionTexts.{with_line_feed, text_of}

-- the text that events show, and their first fault
pub record Shown : Type 0 where
  pub text : List ℕ
  pub fault : Option Verdict

-- by the feed's rules, with a checksum function that always returns 0
abbrev pub shown_of : List Event → Shown
shown_of l = record { text = text_of (shown (rules (λ bytes. 0)) l); fault = first_fault (rules (λ bytes. 0)) l }

abbrev pub shows : List ℕ → Option Verdict → Shown
shows text fault = record { text = text; fault = fault }

abbrev pub zeros : ℕ → List ℕ
zeros n = replicate n 0

-- an event from server 1 with these flags
abbrev pub flagged_event : ℕ → ℕ → ℕ → List ℕ → Event
flagged_event type flags position body =
    (0 ∷ 0 ∷ 0 ∷ 0 ∷ type ∷ 1 ∷ 0 ∷ 0 ∷ 0 ∷ []) ++ to_le_bytes w32 (19 + length body) ++ to_le_bytes w32 position ++ (flags ∷ 0 ∷ []) ++ body

abbrev pub event : ℕ → ℕ → List ℕ → Event
event type position body = flagged_event type 0 position body

-- QUERY_EVENT
abbrev pub query_event : ℕ → List ℕ → List ℕ → Event
query_event position schema text = event 2 position ((1 ∷ []) ++ zeros 7 ++ (length schema ∷ 0 ∷ 0 ∷ 0 ∷ 0 ∷ []) ++ schema ++ (0 ∷ []) ++ text)

abbrev pub begin_event : Event
begin_event = query_event 42 [] (codes "BEGIN")

-- TABLE_MAP_EVENT of table id 7, `d`.`t`, with columns of these types
abbrev pub map_of_types : ℕ → List ℕ → List ℕ → Event
map_of_types position types bits = event 19 position ((7 ∷ 0 ∷ 0 ∷ 0 ∷ 0 ∷ 0 ∷ 1 ∷ 0 ∷ 1 ∷ 100 ∷ 0 ∷ 1 ∷ 116 ∷ 0 ∷ length types ∷ []) ++ types ++ (0 ∷ []) ++ bits)

abbrev pub map_event : Event
map_event = map_of_types 79 (3 ∷ []) (1 ∷ [])

-- a rows event of this type: the table id, and the bytes after the post-header (number of columns, bitmaps, rows data)
abbrev pub rows_event : ℕ → ℕ → ℕ → List ℕ → Event
rows_event type position table rest = event type position ((table ∷ 0 ∷ 0 ∷ 0 ∷ 0 ∷ 0 ∷ 1 ∷ 0 ∷ 2 ∷ 0 ∷ []) ++ rest)

-- WRITE_ROWS_EVENT with the row 5
abbrev pub write_event : Event
write_event = rows_event 30 115 7 (1 ∷ 1 ∷ 0 ∷ 5 ∷ 0 ∷ 0 ∷ 0 ∷ [])

-- the same row in table 8
abbrev pub write_event_of_table_8 : Event
write_event_of_table_8 = rows_event 30 115 8 (1 ∷ 1 ∷ 0 ∷ 5 ∷ 0 ∷ 0 ∷ 0 ∷ [])

-- XID_EVENT
abbrev pub xid_event : ℕ → Event
xid_event position = event 16 position ((11 ∷ []) ++ zeros 7)

abbrev pub commit_event : Event
commit_event = xid_event 142

-- GTID_EVENT
abbrev pub gtid_event : Event
gtid_event = event 33 0 ((0 ∷ 1 ∷ 2 ∷ 3 ∷ 4 ∷ 5 ∷ 6 ∷ 7 ∷ 8 ∷ 9 ∷ 10 ∷ 11 ∷ 12 ∷ 13 ∷ 14 ∷ 15 ∷ 16 ∷ 5 ∷ []) ++ zeros 7)

-- FORMAT_DESCRIPTION_EVENT of server 5.6.1 without post-header lengths, with this algorithm and the checksum 0
abbrev pub description_event : ℕ → Event
description_event algorithm = event 15 85 ((4 ∷ 0 ∷ []) ++ codes "5.6.1" ++ zeros 45 ++ zeros 4 ++ (19 ∷ algorithm ∷ []) ++ zeros 4)

-- an event with a checksum of four bytes after its body
abbrev pub with_checksum : List ℕ → ℕ → Event → Event
with_checksum checksum position e = event (type_of e) position (drop 19 e ++ checksum)

-- a table map whose database name is longer than the body
abbrev pub broken_map : Event
broken_map = event 19 79 (7 ∷ 0 ∷ 0 ∷ 0 ∷ 0 ∷ 0 ∷ 1 ∷ 0 ∷ 200 ∷ 100 ∷ 0 ∷ 1 ∷ 116 ∷ 0 ∷ 1 ∷ 3 ∷ 0 ∷ 1 ∷ [])

-- a log of one transaction with checksums, with this table map
abbrev pub checksummed_with : Event → List Event
checksummed_with m =
    description_event 1 ∷ with_checksum (zeros 4) 127 begin_event ∷ m ∷ with_checksum (zeros 4) 208 write_event ∷ with_checksum (zeros 4) 239 commit_event ∷ []

-- one transaction of one row
abbrev pub one_insert_events : List Event
one_insert_events = begin_event ∷ map_event ∷ write_event ∷ commit_event ∷ []

-- the text of a transaction with this line
abbrev pub transaction : List ℕ → List ℕ → List ℕ → List ℕ
transaction gtid row position = with_line_feed (codes "begin " ++ gtid) ++ with_line_feed row ++ with_line_feed (codes "commit " ++ position)

abbrev pub insert_text : List ℕ → List ℕ → List ℕ
insert_text gtid position = transaction gtid (codes "insert 'd' 't' 0=5") position

abbrev pub one_insert_text : List ℕ
one_insert_text = insert_text (codes "-") (codes "142")
