-- The lines of a transaction are objects of RFC 8259.
use Rattle.std.proofs.Common.{◌≡◌, ℕ, zero, suc, ◌+◌, ◌<◌, ◌^◌, Bool, true, false, T, List, [], ◌∷◌, ◌++◌, map, length, refl, sym, ap, ◌∙◌, subst, append_assoc, arith, Option, Some, None}
use Rattle.std.specs.Prelude.{IsUtf8, codes, unwrap_or}
use Rattle.std.specs.List.{join_with_byte, slice_get}
use Rattle.std.specs.Fmt.{decimal}
use Rattle.std.specs.declared.result.Result.TheVariants.{Ok}
use Rattle.std.proofs.lemmas.Str.{IsUtf8-nil}
use Rattle.std.proofs.lemmas.List.{append-nil}
use Rattle.wire_buf.specs.Encoding.{AreBytes}
use Rattle.events_frames.specs.Headers.{Header}
use Rattle.rows_table_map.specs.TableMaps.{TableMap}
use Rattle.rows_cells.specs.EventRows.{row_at}
use Rattle.rows_cells.specs.Images.{ColumnValue, ImageShape}
use Rattle.rows_errors.specs.Readings.{Reading, ◌>>=◌}
use Rattle.rows_event_body.specs.EventShapes.{event_shapes, event_rows, row_read}
use Rattle.rows_event_body.specs.RowsEvents.{RowsBody}
use Rattle.rows_event_body.specs.declared.rows_event_type.RowImages.{RowImages}
use Rattle.feed_transactions.specs.MappedRows.{Change, Insert, Update, Delete, change_by, plan_by}
use Rattle.changes_writers.specs.JsonStrings.{json_string}
use Rattle.changes_tables.specs.ShownColumns.{ColumnView}
use Rattle.changes_tables.specs.MemberTexts.{utf8_json}
use Rattle.changes_tables.specs.PrimaryKeys.{key_member, name_json}
use Rattle.changes_tables.specs.ShownTables.{names_member}
use Rattle.changes_lines.specs.ChangeLines.{change_word, rows_front, rows_back}
use Rattle.changes_lines.specs.Origins.{header_members, origin_members}
use Rattle.changes_lines.specs.RowJson.{AreRowsJson}
use Rattle.changes_lines.specs.FactMembers.{LogPlace, OfNumber, OfText, TransactionFacts, TransactionXid, number_member, place_text, resume_member, transaction_members, xid_member, query_member, row_member, row_member_if, numbered, numbered_if}
use Rattle.changes_origins.specs.declared.added_members.AddedMembers.{AddedMembers}
use Rattle.changes_laws.specs.JsonNames.{AreDistinct}
use Rattle.changes_laws.specs.JsonLines.{IsLoggedHeader, IsLoggedNumber, IsLoggedXid, AreLoggedFacts}
use Rattle.changes_laws.proofs.StringGrammarLemmas.{all_ascii}
use Rattle.changes_laws.proofs.WrittenJson.{IsJson, AllJson, joined_array, string_json}
use Rattle.changes_laws.proofs.NumberGrammarLemmas.{decimal_json}
use Rattle.changes_laws.proofs.PlainGrammarLemmas.{Plain, plain_known, quoted_json, utf8_or_object}
use Rattle.changes_laws.proofs.SoundCellLemmas.{EachHolds, AreSoundImages, WithBytes, walk_holds, row_gives}
use Rattle.changes_laws.proofs.ReadingGives.{Gives}
use Rattle.changes_laws.proofs.TableGrammarLemmas.{AreNamed}
use Rattle.changes_laws.proofs.PlannedColumnLemmas.{AreRisingShapes}
use Rattle.changes_laws.proofs.RowGrammarLemmas.{HasRow, row_members}
use Rattle.changes_laws.proofs.NamedMembers.{HasNamed, Opens, none_named, next_named, last_named, both_named, opens_with, opens_then}

-- ---- the names of a line's members, but for `type` and `commit`, in their order; those of a row, of a statement and on request
abbrev pub front_names : List (List ℕ)
front_names = codes "database" ∷ codes "table" ∷ codes "ts" ∷ codes "server_id" ∷ []

abbrev pub origin_names : List (List ℕ)
origin_names = codes "gtid" ∷ codes "file" ∷ codes "position" ∷ codes "resume" ∷ codes "begin" ∷ codes "ts_ms" ∷ codes "xid" ∷ codes "thread_id" ∷ []

abbrev pub row_names : List (List ℕ)
row_names = codes "data" ∷ codes "old" ∷ codes "sql" ∷ codes "row" ∷ []

abbrev pub back_names : List (List ℕ)
back_names = codes "primary_key" ∷ codes "query" ∷ row_names

-- ---- where a change comes from
pub header_named : (P : Type 0) (h : Header) → IsLoggedHeader h → HasNamed P (codes "ts" ∷ codes "server_id" ∷ []) (header_members h)
unfolding json_string
header_named P h l =
    next_named P (codes "ts") (decimal h.timestamp) (codes ",\"server_id\":" ++ decimal h.server_id) (codes "server_id" ∷ []) tt (decimal_json P h.timestamp (omega (arith, l.0)))
    (last_named P (codes "server_id") (decimal h.server_id) tt (decimal_json P h.server_id (omega (arith, l.1))))

pub origin_named : (P : Type 0) (gtid file : List ℕ) (position : ℕ) → IsJson P gtid → position < 2 ^ 64 → HasNamed P (codes "gtid" ∷ codes "file" ∷ codes "position" ∷ []) (origin_members gtid file position)
unfolding json_string
origin_named P gtid file position g lt =
    next_named P (codes "gtid") gtid (codes ",\"file\":" ++ (utf8_json file ++ (codes ",\"position\":" ++ decimal position))) (codes "file" ∷ codes "position" ∷ []) tt g
    (next_named P (codes "file") (utf8_json file) (codes ",\"position\":" ++ decimal position) (codes "position" ∷ []) tt (utf8_or_object P file)
    (last_named P (codes "position") (decimal position) tt (decimal_json P position (omega (arith, lt)))))

-- ---- members on request
number_named : (P : Type 0) (asked : Bool) (k : List ℕ) (o : Option ℕ) → T (all_ascii k) → IsLoggedNumber asked o → HasNamed P (k ∷ []) (number_member asked (44 ∷ (json_string k ++ 58 ∷ [])) o)
number_named P true k (Some n) h lt = subst (λ (t : List ℕ). HasNamed P (k ∷ []) (44 ∷ t)) (sym (append_assoc (json_string k) (58 ∷ []) (decimal n))) (last_named P k (decimal n) h (decimal_json P n (omega (arith, lt))))
number_named P true k None h lt = none_named P (k ∷ [])
number_named P false k o h lt = none_named P (k ∷ [])

xid_named : (P : Type 0) (asked : Bool) (o : Option TransactionXid) → IsLoggedXid asked o → HasNamed P (codes "xid" ∷ []) (xid_member asked o)
unfolding json_string
xid_named P true (Some (OfNumber n)) lt = last_named P (codes "xid") (decimal n) tt (decimal_json P n (omega (arith, lt)))
xid_named P true (Some (OfText text)) h = last_named P (codes "xid") (utf8_json text) tt (utf8_or_object P text)
xid_named P true None h = none_named P (codes "xid" ∷ [])
xid_named P false o h = none_named P (codes "xid" ∷ [])

resume_named : (P : Type 0) (o : Option LogPlace) → HasNamed P (codes "resume" ∷ []) (resume_member o)
unfolding json_string
resume_named P (Some p) = last_named P (codes "resume") (utf8_json (place_text p)) tt (utf8_or_object P (place_text p))
resume_named P None = none_named P (codes "resume" ∷ [])

pub transaction_named : (P : Type 0) (a : AddedMembers) (f : TransactionFacts) → AreLoggedFacts a f → HasNamed P (codes "resume" ∷ codes "begin" ∷ codes "ts_ms" ∷ codes "xid" ∷ codes "thread_id" ∷ []) (transaction_members a f)
unfolding json_string
transaction_named P a f l =
    let resume = resume_named P f.resume in
    let begin = number_named P a.begin (codes "begin") (Some f.begin) tt l.0 in
    let ts_ms = number_named P a.ts_ms (codes "ts_ms") f.ts_ms tt l.1 in
    let xid = xid_named P a.xid f.xid l.2 in
    let thread_id = number_named P a.thread_id (codes "thread_id") f.thread_id tt l.3 in
    both_named P (codes "resume" ∷ []) (codes "begin" ∷ codes "ts_ms" ∷ codes "xid" ∷ codes "thread_id" ∷ []) _ _ resume
    (both_named P (codes "begin" ∷ []) (codes "ts_ms" ∷ codes "xid" ∷ codes "thread_id" ∷ []) _ _ begin
    (both_named P (codes "ts_ms" ∷ []) (codes "xid" ∷ codes "thread_id" ∷ []) _ _ ts_ms (both_named P (codes "xid" ∷ []) (codes "thread_id" ∷ []) _ _ xid thread_id)))

query_named : (P : Type 0) (asked : Bool) (o : Option (List ℕ)) → HasNamed P (codes "query" ∷ []) (query_member asked o)
unfolding json_string
query_named P true (Some q) = last_named P (codes "query") (utf8_json q) tt (utf8_or_object P q)
query_named P true None = none_named P (codes "query" ∷ [])
query_named P false o = none_named P (codes "query" ∷ [])

pub row_named : (P : Type 0) (asked : Bool) (n : ℕ) → IsLoggedNumber asked (Some n) → HasNamed P (codes "row" ∷ []) (row_member_if asked n)
unfolding json_string
row_named P true n lt = last_named P (codes "row") (decimal n) tt (decimal_json P n (omega (arith, lt)))
row_named P false n lt = none_named P (codes "row" ∷ [])

-- ---- the members before and after these
word_plain : (c : Change) → Plain (change_word c)
word_plain Insert = plain_known (codes "insert") tt
word_plain Update = plain_known (codes "update") tt
word_plain Delete = plain_known (codes "delete") tt

table_named : (P : Type 0) (m : TableMap) → HasNamed P (codes "database" ∷ codes "table" ∷ []) (44 ∷ names_member m)
unfolding json_string
table_named P m =
    next_named P (codes "database") (utf8_json m.database) (codes ",\"table\":" ++ utf8_json m.table) (codes "table" ∷ []) tt (utf8_or_object P m.database) (last_named P (codes "table") (utf8_json m.table) tt (utf8_or_object P m.table))

pub front_opens : (P : Type 0) (images : RowImages) (m : TableMap) (h : Header) → IsLoggedHeader h → Opens P (codes "type") (codes "database" ∷ codes "table" ∷ codes "ts" ∷ codes "server_id" ∷ []) (rows_front images m h)
unfolding json_string
front_opens P images m h l =
    let word = change_word (change_by images) in
    let more = (44 ∷ names_member m) ++ header_members h in
    subst (λ (t : List ℕ). Opens P (codes "type") (codes "database" ∷ codes "table" ∷ codes "ts" ∷ codes "server_id" ∷ []) (codes "{\"type\":\"" ++ t)) (append_assoc word (34 ∷ []) more)
    (opens_with P (codes "type") (34 ∷ word ++ 34 ∷ []) more (codes "database" ∷ codes "table" ∷ codes "ts" ∷ codes "server_id" ∷ []) tt (quoted_json P word (word_plain (change_by images)))
    (both_named P (codes "database" ∷ codes "table" ∷ []) (codes "ts" ∷ codes "server_id" ∷ []) (44 ∷ names_member m) (header_members h) (table_named P m) (header_named P h l)))

pub statement_opens : (P : Type 0) (schema : List ℕ) (h : Header) → IsLoggedHeader h → Opens P (codes "type") (codes "database" ∷ codes "table" ∷ codes "ts" ∷ codes "server_id" ∷ []) (codes "{\"type\":\"statement\",\"database\":" ++ (utf8_json schema ++ header_members h))
unfolding json_string
statement_opens P schema h l =
    opens_with P (codes "type") (codes "\"statement\"") (codes ",\"database\":" ++ (utf8_json schema ++ header_members h)) (codes "database" ∷ codes "table" ∷ codes "ts" ∷ codes "server_id" ∷ []) tt (quoted_json P (codes "statement") (plain_known (codes "statement") tt))
    (next_named P (codes "database") (utf8_json schema) (header_members h) (codes "table" ∷ codes "ts" ∷ codes "server_id" ∷ []) tt (utf8_or_object P schema)
    (both_named P (codes "table" ∷ []) (codes "ts" ∷ codes "server_id" ∷ []) [] (header_members h) (none_named P (codes "table" ∷ [])) (header_named P h l)))

-- ---- the primary key
key_name_utf8 : (names : List (List ℕ)) (i : ℕ) → EachHolds IsUtf8 names → IsUtf8 (unwrap_or (slice_get names i) [])
key_name_utf8 [] i h = IsUtf8-nil
key_name_utf8 (n ∷ ns) zero h = h.0
key_name_utf8 (n ∷ ns) (suc i) h = key_name_utf8 ns i h.1

key_names_json : (P : Type 0) (names : List (List ℕ)) (columns : List ℕ) → EachHolds IsUtf8 names → AllJson P (map (name_json names) columns)
key_names_json P names [] h = tt
key_names_json P names (c ∷ cs) h = (string_json P (unwrap_or (slice_get names c) []) (key_name_utf8 names c h), key_names_json P names cs h)

-- the primary key, if there is one, the statement that changed the rows, and the members of the row
pub back_named : (P : Type 0) (names : List (List ℕ)) (columns : List ℕ) (asked : Bool) (query : Option (List ℕ)) (row : List ℕ) → EachHolds IsUtf8 names → HasNamed P row_names (codes ",\"data\":" ++ row)
    → HasNamed P back_names (rows_back (key_member names columns) (query_member asked query) ++ row)
unfolding json_string
back_named P names [] asked query row h m =
    let q = query_member asked query in
    let start = codes ",\"data\":" in
    subst (HasNamed P back_names) (sym (append_assoc q start row))
    (both_named P (codes "primary_key" ∷ []) (codes "query" ∷ row_names) [] (q ++ (start ++ row)) (none_named P (codes "primary_key" ∷ [])) (both_named P (codes "query" ∷ []) row_names q (start ++ row) (query_named P asked query) m))
back_named P names (c ∷ cs) asked query row h m =
    let q = query_member asked query in
    let start = codes ",\"data\":" in
    let texts = map (name_json names) (c ∷ cs) in
    let array = joined_array P texts (key_names_json P names (c ∷ cs) h) in
    let key = 44 ∷ key_member names (c ∷ cs) in
    subst (HasNamed P back_names) (sym (append_assoc key (q ++ start) row ∙ ap (λ (t : List ℕ). key ++ t) (append_assoc q start row)))
    (both_named P (codes "primary_key" ∷ []) (codes "query" ∷ row_names) key (q ++ (start ++ row)) (last_named P (codes "primary_key") (91 ∷ (join_with_byte 44 texts ++ 93 ∷ [])) tt array)
    (both_named P (codes "query" ∷ []) row_names q (start ++ row) (query_named P asked query) m))

-- ---- the objects of changes
-- the start of an object that may also have `commit`
abbrev pub IsOpenLine : Type 0 → List ℕ → Type 0
IsOpenLine P text = Opens P (codes "type") (front_names ++ (origin_names ++ back_names)) text

pub open_line : (P : Type 0) (front origin back : List ℕ) → Opens P (codes "type") front_names front → HasNamed P origin_names origin → HasNamed P back_names back → IsOpenLine P (front ++ (origin ++ back))
open_line P front origin back o m n = opens_then P (codes "type") front_names (origin_names ++ back_names) front (origin ++ back) o (both_named P origin_names back_names origin back m n)

pub statement_line : (P : Type 0) (asked : Bool) (n : ℕ) (schema query origin : List ℕ) (h : Header) → IsLoggedHeader h → IsLoggedNumber asked (Some n) → HasNamed P origin_names origin
    → IsOpenLine P ((codes "{\"type\":\"statement\",\"database\":" ++ (utf8_json schema ++ header_members h)) ++ (origin ++ (codes ",\"sql\":" ++ (utf8_json query ++ row_member_if asked n))))
unfolding json_string
statement_line P asked n schema query origin h l lt m =
    let sql = next_named P (codes "sql") (utf8_json query) (row_member_if asked n) (codes "row" ∷ []) tt (utf8_or_object P query) (row_named P asked n lt) in
    let before = codes "primary_key" ∷ codes "query" ∷ codes "data" ∷ codes "old" ∷ [] in
    open_line P _ origin _ (statement_opens P schema h l) m (both_named P before (codes "sql" ∷ codes "row" ∷ []) [] _ (none_named P before) sql)

-- a row, and its number if that is asked for
numbered_row : (P : Type 0) (asked : Bool) (n : ℕ) (row : List ℕ) → IsLoggedNumber asked (Some n) → HasRow P row → HasNamed P row_names (codes ",\"data\":" ++ (row ++ row_member_if asked n))
numbered_row P asked n row lt r =
    both_named P (codes "data" ∷ codes "old" ∷ []) (codes "sql" ∷ codes "row" ∷ []) (codes ",\"data\":" ++ row) (row_member_if asked n) r
    (both_named P (codes "sql" ∷ []) (codes "row" ∷ []) [] (row_member_if asked n) (none_named P (codes "sql" ∷ [])) (row_named P asked n lt))

pub rows_sound : (m : TableMap) (r : RowsBody) (shapes : List ImageShape) → AreBytes r.rows_data → event_shapes r (plan_by m) ≡ Ok shapes → EachHolds (AreSoundImages shapes) (event_rows r (plan_by m)).items
rows_sound m r shapes h e = walk_holds (AreSoundImages shapes) (row_read r (plan_by m)) (λ b a. subst (λ (o : Reading (List ImageShape)). Gives (WithBytes (AreSoundImages shapes)) (o >>= λ s. row_at s b)) (sym e) (row_gives shapes b a)) (length r.rows_data) r.rows_data h

pub rows_named : (P : Type 0) (names : List (List ℕ)) (table : List ColumnView) (shapes : List ImageShape) (rows : List (List (List ColumnValue))) (texts : List (List ℕ))
    → (P → AreDistinct names) → AreNamed P names table → AreRisingShapes (length names) shapes → EachHolds (AreSoundImages shapes) rows → AreRowsJson table shapes rows texts → EachHolds (HasRow P) texts
unfolding AreRowsJson
rows_named P names table shapes [] [] d t r s a = tt
rows_named P names table shapes [] (x ∷ xs) d t r s a = absurd a
rows_named P names table shapes (row ∷ rows) [] d t r s a = absurd a
rows_named P names table shapes (row ∷ rows) (x ∷ xs) d t r s a = (row_members P names table shapes row x d t r s.0 a.0, rows_named P names table shapes rows xs d t r s.1 a.1)

pub as_many_rows : (table : List ColumnView) (shapes : List ImageShape) (rows : List (List (List ColumnValue))) (texts : List (List ℕ)) → AreRowsJson table shapes rows texts → length texts ≡ length rows
unfolding AreRowsJson
as_many_rows table shapes [] [] a = refl
as_many_rows table shapes [] (x ∷ xs) a = absurd a
as_many_rows table shapes (row ∷ rows) [] a = absurd a
as_many_rows table shapes (row ∷ rows) (x ∷ xs) a = ap suc (as_many_rows table shapes rows xs a.1)

-- what is after the members of a row's transaction
abbrev pub IsBack : Type 0 → List ℕ → Type 0
IsBack P back = (row : List ℕ) → HasNamed P row_names (codes ",\"data\":" ++ row) → HasNamed P back_names (back ++ row)

pub row_lines : (P : Type 0) (asked : Bool) (before : ℕ) (front origin back : List ℕ) (rows : List (List ℕ)) → Opens P (codes "type") front_names front → HasNamed P origin_names origin → IsBack P back
    → IsLoggedNumber asked (Some (before + length rows)) → EachHolds (HasRow P) rows → EachHolds (IsOpenLine P) (map (λ row. front ++ (origin ++ (back ++ row))) (numbered_if asked before rows))
unfolding numbered
row_lines P true before front origin back [] o m k lt h = tt
row_lines P true before front origin back (row ∷ rows) o m k lt h =
    let next = before + 1 in
    let text = row ++ row_member next in
    (open_line P front origin (back ++ text) o m (k text (numbered_row P true next row (omega (arith, lt)) h.0)), row_lines P true next front origin back rows o m k (omega (arith, lt)) h.1)
row_lines P false before front origin back [] o m k lt h = tt
row_lines P false before front origin back (row ∷ rows) o m k lt h =
    let named = subst (λ (t : List ℕ). HasNamed P row_names (codes ",\"data\":" ++ t)) (append-nil row) (numbered_row P false before row tt h.0) in
    (open_line P front origin (back ++ row) o m (k row named), row_lines P false before front origin back rows o m k tt h.1)
