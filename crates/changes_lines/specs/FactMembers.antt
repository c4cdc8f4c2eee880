-- The members that lines have on request: what the events of a transaction say of it besides its changes. MySQL's pages of the classes Gtid_event, Query_event, Xid_event and Rows_query_event.
use Rattle.std.specs.Prelude.{◌&&◌, ◌≡◌, ◌||◌, ◌+◌, ◌-◌, ◌/◌, ◌%◌, ◌^◌, ◌==◌, ℕ, Bool, true, false, List, [], ◌∷◌, ◌++◌, length, take, drop, codes, Option, Some, None, cond, nat_le, nat_lt, slice_index, if◌then◌else◌}
use Rattle.std.specs.Fmt.{decimal}
use Rattle.events_frames.specs.Events.{header_size_field}
use Rattle.events_frames.specs.HeaderFields.{header_field}
use Rattle.changes_tables.specs.MemberTexts.{utf8_json}
use Rattle.changes_origins.specs.TaggedGtids.{IsTaggedTime}
use Rattle.changes_origins.specs.declared.added_members.AddedMembers.{AddedMembers}
use Rattle.changes_lines.specs.declared.event_facts.EventFacts.{EventFacts}
use Rattle.changes_lines.specs.declared.event_facts.KeptXid.{KeptXid}
use Rattle.changes_lines.specs.declared.event_facts.KeptXid.TheVariants as kept

-- the position at which an event begins: that after it, less its size; positions have 32 bits
abbrev pub start_of : List ℕ → ℕ
start_of e = ((header_field 13 4 e + (2 ^ 32 - header_size_field e)) % 2 ^ 32)

-- the time of the commit in the body of a GTID_EVENT or an ANONYMOUS_GTID_EVENT, in milliseconds: seven bytes of microseconds, whose highest bit is a flag, after two logical timestamps
abbrev pub commit_time : List ℕ → Option ℕ
commit_time body = if nat_lt (length body) 49 then None else (if header_field 25 1 body == 2 then Some (header_field 42 7 body % 2 ^ 55 / 1000) else None)

-- the XID of a transaction: a number, or the text of an XA transaction's
pub data TransactionXid : Type 0 where
  OfNumber : ℕ → TransactionXid
  OfText : List ℕ → TransactionXid

-- the number of an XID_EVENT
abbrev pub xid_number : List ℕ → Option TransactionXid
xid_number e = if nat_lt (length e) 27 then None else Some (OfNumber (header_field 19 8 e))

-- the status variables of a QUERY_EVENT, after its header (19) and the fields after that (13), of which the last is their length
abbrev pub status_of : List ℕ → List ℕ
status_of e = if nat_le 33 (length e) then take (header_field 30 2 e) (drop 32 e) else []

-- the text in them: the variable 255, if it is the first
abbrev pub xid_text : List ℕ → Option TransactionXid
xid_text status = if nat_le 1 (length status) then (if slice_index status 0 == 255 then Some (OfText (drop 1 status)) else None) else None

-- what the event that commits a transaction has of its XID: the number of an XID_EVENT (16), or the text in the COMMIT of an XA transaction, a QUERY_EVENT (2)
abbrev pub xid_of : List ℕ → Option TransactionXid
xid_of e = if header_field 4 1 e == 16 then xid_number e else (if header_field 4 1 e == 2 then xid_text (status_of e) else None)

-- the id of the thread that wrote a QUERY_EVENT; 0 is none
abbrev pub thread_of : List ℕ → Option ℕ
thread_of e = if nat_lt (length e) 23 then None else (if header_field 19 4 e == 0 then None else Some (header_field 19 4 e))

-- a position in the log with a name
pub record LogPlace : Type 0 where
  pub file : List ℕ
  pub position : ℕ

-- what the events of a transaction say of it: the position at which it begins, when it was committed in milliseconds since 1970, its XID, and the id of its thread;
-- and where reading can begin again, if that isn't its end
pub record TransactionFacts : Type 0 where
  pub begin : ℕ
  pub ts_ms : Option ℕ
  pub xid : Option TransactionXid
  pub thread_id : Option ℕ
  pub resume : Option LogPlace

-- a member with a number after a comma; nothing without a number, or if it isn't asked for
abbrev pub number_member : Bool → List ℕ → Option ℕ → List ℕ
number_member true key (Some n) = key ++ decimal n
number_member true key None = []
number_member false key n = []

-- the value of the member with an XID
abbrev pub xid_value : TransactionXid → List ℕ
xid_value (OfNumber n) = decimal n
xid_value (OfText text) = utf8_json text

-- that member, after a comma
abbrev pub xid_member : Bool → Option TransactionXid → List ℕ
xid_member true (Some xid) = codes ",\"xid\":" ++ xid_value xid
xid_member true None = []
xid_member false xid = []

-- the place where reading can begin again: the name of the log, a colon and the position
abbrev pub place_text : LogPlace → List ℕ
place_text p = p.file ++ 58 ∷ decimal p.position

-- as a member; nothing, if that is the end of the transaction
abbrev pub resume_member : Option LogPlace → List ℕ
resume_member (Some p) = codes ",\"resume\":" ++ utf8_json (place_text p)
resume_member None = []

-- those that are asked for
abbrev pub asked_members : AddedMembers → TransactionFacts → List ℕ
asked_members a f =
    number_member a.begin (codes ",\"begin\":") (Some f.begin)
    ++ (number_member a.ts_ms (codes ",\"ts_ms\":") f.ts_ms ++ (xid_member a.xid f.xid ++ number_member a.thread_id (codes ",\"thread_id\":") f.thread_id))

-- those of a transaction
abbrev pub transaction_members : AddedMembers → TransactionFacts → List ℕ
transaction_members a f = resume_member f.resume ++ asked_members a f

-- the statement that changed rows; nothing without one, or if it isn't asked for
abbrev pub query_member : Bool → Option (List ℕ) → List ℕ
query_member true (Some q) = codes ",\"query\":" ++ utf8_json q
query_member true None = []
query_member false q = []

-- the number of a row or a statement
abbrev pub row_member : ℕ → List ℕ
row_member n = codes ",\"row\":" ++ decimal n

-- the same, if it is asked for
abbrev pub row_member_if : Bool → ℕ → List ℕ
row_member_if true n = row_member n
row_member_if false n = []

-- rows with their numbers, after so many rows
unfoldable pub numbered : ℕ → List (List ℕ) → List (List ℕ)
numbered n [] = []
numbered n (row ∷ rows) = (row ++ row_member (n + 1)) ∷ numbered (n + 1) rows

-- the same, if they are asked for
abbrev pub numbered_if : Bool → ℕ → List (List ℕ) → List (List ℕ)
numbered_if true n rows = numbered n rows
numbered_if false n rows = rows

-- the same, if there is a number of rows before them
abbrev pub numbered_by : Option ℕ → List (List ℕ) → List (List ℕ)
numbered_by (Some n) rows = numbered n rows
numbered_by None rows = rows

-- ---- what a recorder keeps of events

-- the XID of the transaction
abbrev pub xid_in : KeptXid → List ℕ → Option TransactionXid
xid_in (kept.Number n) text = Some (OfNumber n)
xid_in kept.Text text = Some (OfText text)
xid_in kept.None text = None

-- what it keeps of the open transaction
abbrev pub facts_of : EventFacts → TransactionFacts
facts_of s = record { begin = s.begin; ts_ms = s.ts_ms; xid = xid_in s.xid s.xid_text.items; thread_id = s.thread_id; resume = None }

-- the statement that changes the rows, if it observed one
abbrev pub query_in : EventFacts → Option (List ℕ)
query_in s = cond s.has_query (Some s.query.items) None

-- what it has after it observed an event of this type and body
pub record ObservesType (type : ℕ) (old : EventFacts) (e body : List ℕ) (new : EventFacts) : Type 0 where
  pub gtid : (type == 33 || type == 34) ≡ true → (new.gtid_start ≡ start_of e) × (new.gtid_time ≡ commit_time body)
  pub tagged : (type == 42) ≡ true → (new.gtid_start ≡ start_of e) × IsTaggedTime body new.gtid_time
  pub no_gtid : (type == 33 || (type == 34 || type == 42)) ≡ false → (new.gtid_start ≡ old.gtid_start) × (new.gtid_time ≡ old.gtid_time)
  pub query : (type == 29 && old.added.query) ≡ true → query_in new ≡ Some (drop 1 body)
  pub no_query : (type == 29 && old.added.query) ≡ false → query_in new ≡ query_in old

-- What it has after memory ran out for the statement of an event: none.
pub record LosesQuery (old : EventFacts) (e : List ℕ) (new : EventFacts) : Type 0 where
  pub type : (header_field 4 1 e == 29 && old.added.query) ≡ true
  pub gtid : (new.gtid_start ≡ old.gtid_start) × (new.gtid_time ≡ old.gtid_time)
  pub query : query_in new ≡ None

abbrev pub Observes : EventFacts → List ℕ → List ℕ → EventFacts → Type 0
Observes old e body new = ObservesType (header_field 4 1 e) old e body new

-- the same after a transaction began with this event: it begins with its GTID's, or else with this one
abbrev pub begun_facts : EventFacts → Bool → List ℕ → TransactionFacts
begun_facts s true e = record { begin = s.gtid_start; ts_ms = s.gtid_time; xid = None; thread_id = thread_of e; resume = None }
begun_facts s false e = record { begin = start_of e; ts_ms = None; xid = None; thread_id = thread_of e; resume = None }

-- the same with this XID, or with none: that of the event which commits it
abbrev pub with_xid : Option TransactionXid → TransactionFacts → TransactionFacts
with_xid xid f = record { begin = f.begin; ts_ms = f.ts_ms; xid = xid; thread_id = f.thread_id; resume = f.resume }

-- the same with this place where reading can begin again
abbrev pub with_resume : Option LogPlace → TransactionFacts → TransactionFacts
with_resume resume f = record { begin = f.begin; ts_ms = f.ts_ms; xid = f.xid; thread_id = f.thread_id; resume = resume }
