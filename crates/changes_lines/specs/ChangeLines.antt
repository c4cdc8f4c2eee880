-- The JSON lines of a committed transaction: an object of RFC 8259 for each changed row and each statement, or one for the whole transaction.
use Rattle.std.specs.Prelude.{◌≡◌, ◌+◌, ℕ, Bool, true, false, List, [], ◌∷◌, ◌++◌, length, drop, map, codes, Option, Ok}
use Rattle.std.specs.List.{AllZip, flat_map}
use Rattle.events_frames.specs.Headers.{Header}
use Rattle.events_frames.specs.QueryTexts.{StatementTexts}
use Rattle.rows_table_map.specs.TableMaps.{TableMap}
use Rattle.rows_cells.specs.Images.{ImageShape}
use Rattle.rows_event_body.specs.EventShapes.{event_shapes, event_rows}
use Rattle.rows_event_body.specs.RowsEvents.{RowsBody}
use Rattle.rows_event_body.specs.RowsEventTypes.{images_of}
use Rattle.rows_event_body.specs.declared.rows_event_type.RowImages.{RowImages}
use Rattle.feed_transactions.specs.MappedRows.{Change, Insert, Update, Delete, change_by, plan_by}
use Rattle.feed_transactions.specs.Changes.{Content, OfRows, OfStatement, EventChange, Committed}
use Rattle.changes_tables.specs.ShownColumns.{ColumnView}
use Rattle.changes_tables.specs.ColumnParts.{column_names, column_parts}
use Rattle.changes_tables.specs.ColumnsShown.{IsColumn}
use Rattle.changes_tables.specs.MemberTexts.{utf8_json}
use Rattle.changes_tables.specs.PrimaryKeys.{key_columns, key_member}
use Rattle.changes_tables.specs.ShownTables.{names_member}
use Rattle.changes_tables.specs.UsedMetadata.{used_metadata}
use Rattle.changes_tables.specs.declared.columns.TableOptions.{TableOptions}
use Rattle.changes_lines.specs.Origins.{header_members, origin_members}
use Rattle.changes_origins.specs.GtidJson.{IsGtidJson}
use Rattle.changes_lines.specs.RowJson.{AreRowsJson}
use Rattle.changes_lines.specs.FactMembers.{TransactionFacts, numbered_if, query_member, row_member_if, transaction_members}
use Rattle.changes_origins.specs.declared.added_members.AddedMembers.{AddedMembers}

-- the parts of a change's lines: what is before the members that all lines of its transaction have, what is between these and the row, and its rows; a statement has one, its text
pub record ChangeJson : Type 0 where
  pub front : List ℕ
  pub back : List ℕ
  pub rows : List (List ℕ)

-- the word for a change of rows
abbrev pub change_word : Change → List ℕ
change_word Insert = codes "insert"
change_word Update = codes "update"
change_word Delete = codes "delete"

-- what happened to the rows of an event, the names of their table, and the event's time and server
abbrev pub rows_front : RowImages → TableMap → Header → List ℕ
rows_front images m h = codes "{\"type\":\"" ++ (change_word (change_by images) ++ (codes "\"," ++ (names_member m ++ header_members h)))

-- the primary key, if the table has one, the member with the statement that changed the rows, and the name of the row's member
abbrev pub rows_back : List ℕ → List ℕ → List ℕ
rows_back [] query = query ++ codes ",\"data\":"
rows_back (b ∷ bs) query = 44 ∷ ((b ∷ bs) ++ (query ++ codes ",\"data\":"))

-- the primary key of a table as a member; empty without one
abbrev pub key_of : TableMap → List ℕ
key_of m = key_member (column_names m) (key_columns (length m.column_types) (used_metadata m).key)

-- how many rows a change has; a statement counts as one
abbrev pub rows_of : Content → ℕ
rows_of (OfRows m r) = length (event_rows r (plan_by m)).items
rows_of (OfStatement q) = 1

-- the same of changes
abbrev pub rows_of_all : List EventChange → ℕ
rows_of_all [] = 0
rows_of_all (c ∷ cs) = rows_of c.content + rows_of_all cs

-- The rows of an event under its table map, after so many rows of its transaction. Of the members that are asked for it isn't stated here which statement changed the rows.
pub record IsRowsJson (options : TableOptions) (added : AddedMembers) (before : ℕ) (h : Header) (m : TableMap) (r : RowsBody) (x : ChangeJson) : Type 0 where
  pub columns : List ColumnView
  pub shown : ∥ AllZip (IsColumn options) (column_parts m) columns ∥₁
  pub shapes : List ImageShape
  pub shapes_are : event_shapes r (plan_by m) ≡ Ok shapes
  pub front : x.front ≡ rows_front (images_of r.event_type) m h
  pub query : Option (List ℕ)
  pub back : x.back ≡ rows_back (key_of m) (query_member added.query query)
  pub plain : List (List ℕ)
  pub rows : AreRowsJson columns shapes (event_rows r (plan_by m)).items plain
  pub numbered : x.rows ≡ numbered_if added.row before plain

-- a statement, with its default schema, after so many rows of its transaction
pub record IsStatementJson (added : AddedMembers) (before : ℕ) (h : Header) (q : StatementTexts) (x : ChangeJson) : Type 0 where
  pub front : x.front ≡ codes "{\"type\":\"statement\",\"database\":" ++ (utf8_json q.schema ++ header_members h)
  pub back : x.back ≡ codes ",\"sql\":"
  pub rows : x.rows ≡ (utf8_json q.query ++ row_member_if added.row (before + 1)) ∷ []

-- a change's content, after so many rows of its transaction
abbrev pub IsContentJson : TableOptions → AddedMembers → ℕ → Header → Content → ChangeJson → Type 0
IsContentJson options added before h (OfRows m r) x = IsRowsJson options added before h m r x
IsContentJson options added before h (OfStatement q) x = IsStatementJson added before h q x

-- a change, which is among all changes of its transaction
pub record IsChangeJson (options : TableOptions) (added : AddedMembers) (all : List EventChange) (c : EventChange) (x : ChangeJson) : Type 0 where
  pub before : List EventChange
  pub after : List EventChange
  pub among : all ≡ before ++ c ∷ after
  pub is : IsContentJson options added (rows_of_all before) c.header c.content x

-- some of a transaction's changes, one by one
abbrev pub AreChangesJson : TableOptions → AddedMembers → List EventChange → List EventChange → List ChangeJson → Type 0
AreChangesJson options added all cs xs = AllZip (IsChangeJson options added all) cs xs

-- ---- lines

-- the objects of a change without their ends; `origin` are the members that all lines of the transaction have
abbrev pub change_objects : List ℕ → ChangeJson → List (List ℕ)
change_objects origin x = map (λ row. x.front ++ (origin ++ (x.back ++ row))) x.rows

-- those of changes, in their order
abbrev pub objects : List ℕ → List ChangeJson → List (List ℕ)
objects origin xs = flat_map (change_objects origin) xs

-- the end of an object, by those after it: `last` if there are none
abbrev pub end_by : List ℕ → List ℕ → List (List ℕ) → List ℕ
end_by each last [] = last
end_by each last (o ∷ os) = each

-- objects with their ends
unfoldable pub with_ends : List ℕ → List ℕ → List (List ℕ) → List ℕ
with_ends each last [] = []
with_ends each last (o ∷ os) = o ++ (end_by each last os ++ with_ends each last os)

-- a line for each object; the last of a transaction has `commit`
abbrev pub lines_of : List (List ℕ) → List ℕ
lines_of os = with_ends (codes "}\n") (codes ",\"commit\":true}\n") os

-- one line for a transaction that has objects: its time and server, its GTID, file and position, and an array of the objects
abbrev pub transaction_line : List ℕ → List (List ℕ) → List ℕ
transaction_line members [] = []
transaction_line members (o ∷ os) = 123 ∷ (drop 1 members ++ (codes ",\"changes\":[" ++ (with_ends (codes "},") (codes "}") (o ∷ os) ++ codes "]}\n")))

-- the lines of a transaction with these changes, in a file with this name; one line, or one for each row and statement. `gtid` is the JSON of its GTID, and `more` its members on request
abbrev pub transaction_lines : Bool → List ℕ → Committed → List ℕ → List ℕ → List ChangeJson → List ℕ
transaction_lines true file t gtid more xs = transaction_line (header_members t.commit ++ (origin_members gtid file t.commit.log_pos ++ more)) (objects [] xs)
transaction_lines false file t gtid more xs = lines_of (objects (origin_members gtid file t.commit.log_pos ++ more) xs)

-- The lines of a transaction's selected changes, with the members that are asked for. Which values its events have for these isn't stated here.
abbrev pub AreLines : TableOptions → AddedMembers → Bool → List ℕ → Committed → List EventChange → List ℕ → Type 0
AreLines options added by_transaction file t changes text =
    (xs : List ChangeJson) × AreChangesJson options added t.changes changes xs
    × ((gtid : List ℕ) × IsGtidJson t.gtid gtid × ((facts : TransactionFacts) × (text ≡ transaction_lines by_transaction file t gtid (transaction_members added facts) xs)))
