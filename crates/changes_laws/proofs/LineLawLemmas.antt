-- The lines of a transaction are objects, each in a line.
use Rattle.std.proofs.Common.{◌≡◌, ℕ, suc, ◌+◌, ◌/◌, ◌%◌, ◌<◌, ◌≤◌, Bool, true, false, ◌&&◌, ◌||◌, eqb→eq, T, List, [], ◌∷◌, ◌++◌, map, length, drop, take, refl, sym, ap, ap₂, ◌∙◌, subst, append_assoc, arith, Option, Some, None}
use Rattle.std.specs.Prelude.{All, IsTrue, codes, slice_index, ◌==◌}
use Rattle.std.specs.List.{flat_map, join_with_byte, list_any}
use Rattle.std.specs.Fmt.{decimal}
use Rattle.std.proofs.Math.Logic.{∥∥₁_map, ∥∥₁_map₂}
use Rattle.std.proofs.lemmas.List.{append-nil}
use Rattle.std.proofs.lemmas.Simd.{Each1-get_or}
use Rattle.feed_writers.proofs.PlainLemmas.{upto_sound}
use Rattle.hex.specs.Hex.{encode_lower, encode_with, lower_digits}
use Rattle.wire_buf.specs.Encoding.{AreBytes}
use Rattle.events_frames.specs.Headers.{Header}
use Rattle.rows_values.proofs.UnpackedLemmas.{take_bytes, drop_bytes}
use Rattle.rows_event_body.specs.EventShapes.{event_rows}
use Rattle.feed_checks.specs.Kinds.{Numbered}
use Rattle.feed_transactions.specs.MappedRows.{plan_by}
use Rattle.feed_transactions.specs.Changes.{Content, OfRows, OfStatement, EventChange, Committed}
use Rattle.feed_transactions.specs.TransactionTexts.{uuid_text}
use Rattle.rows_event_body.specs.RowsEventTypes.{images_of}
use Rattle.changes_writers.specs.JsonStrings.{json_string}
use Rattle.changes_writers.specs.PlainText.{is_plain}
use Rattle.changes_tables.specs.ColumnParts.{column_names}
use Rattle.changes_tables.specs.MemberTexts.{utf8_json}
use Rattle.changes_tables.specs.PrimaryKeys.{key_columns}
use Rattle.changes_tables.specs.UsedMetadata.{used_metadata}
use Rattle.changes_tables.specs.declared.columns.TableOptions.{TableOptions}
use Rattle.changes_lines.specs.ChangeLines.{ChangeJson, IsContentJson, AreChangesJson, rows_of, rows_of_all, change_objects, objects, end_by, with_ends, lines_of, transaction_line, transaction_lines}
use Rattle.changes_lines.specs.Origins.{header_members, origin_members}
use Rattle.changes_lines.specs.FactMembers.{TransactionFacts, transaction_members, row_member_if}
use Rattle.changes_origins.specs.declared.added_members.AddedMembers.{AddedMembers}
use Rattle.changes_origins.specs.GtidJson.{IsGtidJson, tagged_json}
use Rattle.changes_origins.specs.MariadbGtids.{mariadb_json, MariadbGtid}
use Rattle.changes_origins.specs.TaggedGtids.{TaggedGtid}
use Rattle.changes_laws.specs.JsonLines.{IsObjectLine, AreObjectLines, IsLoggedHeader, IsLoggedContent, IsLoggedChange, IsLoggedNumber, AreLoggedFacts, AreLoggedRows, IsTagRead, is_of_tag, tag_characters}
use Rattle.changes_laws.proofs.WrittenJson.{IsJson, IsObject, AllJson, joined_array, boolean_json, object_value}
use Rattle.changes_laws.proofs.NumberGrammarLemmas.{decimal_json}
use Rattle.changes_laws.proofs.PlainGrammarLemmas.{Plain, all_plain, base64_object_json, plain_append, decimal_plain, quoted_json}
use Rattle.changes_laws.proofs.SoundCellLemmas.{EachHolds}
use Rattle.changes_laws.proofs.TableGrammarLemmas.{columns_named, column_names_utf8, length-shown_columns}
use Rattle.changes_laws.proofs.PlannedColumnLemmas.{AreRisingShapes, shapes_rising}
use Rattle.changes_laws.proofs.DistinctNameLemmas.{column_names_distinct}
use Rattle.changes_laws.proofs.RowGrammarLemmas.{HasRow}
use Rattle.changes_laws.proofs.NamedMembers.{HasNamed, Opens, none_named, last_named, both_named, opens_with, opens_then, opens_closed}
use Rattle.changes_laws.proofs.LineGrammarLemmas.{IsOpenLine, IsBack, front_names, origin_names, back_names, front_opens, statement_line, back_named, row_lines, rows_named, as_many_rows, rows_sound, origin_named, transaction_named}

-- ---- the numbers of rows
counted : (before after : List EventChange) (c : EventChange) → rows_of_all before + rows_of c.content ≤ rows_of_all (before ++ c ∷ after)
counted [] after c = omega arith
counted (b ∷ before) after c = omega (arith, counted before after c)

fewer : (asked : Bool) (m n : ℕ) → m ≤ n → IsLoggedNumber asked (Some n) → IsLoggedNumber asked (Some m)
fewer true m n le lt = omega (arith, le, lt)
fewer false m n le lt = tt

-- ---- the objects of changes
content_objects : (P : Type 0) (options : TableOptions) (added : AddedMembers) (before : ℕ) (h : Header) (content : Content) (x : ChangeJson) (origin : List ℕ) → HasNamed P origin_names origin → IsLoggedHeader h → IsLoggedContent content
    → IsLoggedNumber added.row (Some (before + rows_of content)) → IsContentJson options added before h content x → ∥ EachHolds (IsOpenLine P) (change_objects origin x) ∥₁
content_objects P options added before h (OfRows m r) x origin g l c lt e =
    let names = column_names m in
    let key = key_columns (length m.column_types) (used_metadata m).key in
    let rows = (event_rows r (plan_by m)).items in
    let rising : AreRisingShapes (length names) e.shapes = subst (λ (n : ℕ). AreRisingShapes n e.shapes) (length-shown_columns m) (shapes_rising m r e.shapes e.shapes_are) in
    let opens : Opens P (codes "type") front_names x.front = subst (Opens P (codes "type") front_names) (sym e.front) (front_opens P (images_of r.event_type) m h l) in
    let back : IsBack P x.back = subst (IsBack P) (sym e.back) (λ row n. back_named P names key added.query e.query row (column_names_utf8 m) n) in
    let numbers = subst (λ (n : ℕ). IsLoggedNumber added.row (Some (before + n))) (sym (as_many_rows e.columns e.shapes rows e.plain e.rows)) lt in
    let lines = λ (texts : EachHolds (HasRow P) e.plain). subst (λ (rows : List (List ℕ)). EachHolds (IsOpenLine P) (map (λ row. x.front ++ (origin ++ (x.back ++ row))) rows)) (sym e.numbered) (row_lines P added.row before x.front origin x.back e.plain opens g back numbers texts) in
    ∥∥₁_map e.shown (λ s. lines (rows_named P names e.columns e.shapes rows e.plain (λ p. column_names_distinct m c.1) (columns_named P options m e.columns s) rising (rows_sound m r e.shapes c.0 e.shapes_are) e.rows))
content_objects P options added before h (OfStatement q) x origin g l c lt e =
    let text = utf8_json q.query ++ row_member_if added.row (before + 1) in
    let line : IsOpenLine P (x.front ++ (origin ++ (x.back ++ text))) = subst (λ (f : List ℕ). IsOpenLine P (f ++ (origin ++ (x.back ++ text)))) (sym e.front)
    (subst (λ (b : List ℕ). IsOpenLine P ((codes "{\"type\":\"statement\",\"database\":" ++ (utf8_json q.schema ++ header_members h)) ++ (origin ++ (b ++ text)))) (sym e.back) (statement_line P added.row (before + 1) q.schema q.query origin h l lt g)) in
    ∣ subst (λ (rows : List (List ℕ)). EachHolds (IsOpenLine P) (map (λ row. x.front ++ (origin ++ (x.back ++ row))) rows)) (sym e.rows) (line, tt) ∣₁

each_append : {A : Type 0} (Holds : A → Type 0) (xs ys : List A) → EachHolds Holds xs → EachHolds Holds ys → EachHolds Holds (xs ++ ys)
each_append Holds [] ys p q = q
each_append Holds (x ∷ xs) ys p q = (p.0, each_append Holds xs ys p.1 q)

changes_objects : (P : Type 0) (options : TableOptions) (added : AddedMembers) (all cs : List EventChange) (xs : List ChangeJson) (origin : List ℕ) → HasNamed P origin_names origin → EachHolds IsLoggedChange cs → AreLoggedRows added all
    → AreChangesJson options added all cs xs → ∥ EachHolds (IsOpenLine P) (objects origin xs) ∥₁
changes_objects P options added all [] [] origin g l lt e = ∣ tt ∣₁
changes_objects P options added all [] (x ∷ xs) origin g l lt e = absurd e
changes_objects P options added all (c ∷ cs) [] origin g l lt e = absurd e
changes_objects P options added all (c ∷ cs) (x ∷ xs) origin g l lt e =
    let one = e.0 in
    let numbers = fewer added.row (rows_of_all one.before + rows_of c.content) (rows_of_all (one.before ++ c ∷ one.after)) (counted one.before one.after c) (subst (AreLoggedRows added) one.among lt) in
    ∥∥₁_map₂ (content_objects P options added (rows_of_all one.before) c.header c.content x origin g (l.0).0 (l.0).1 numbers one.is) (changes_objects P options added all cs xs origin g l.1 lt e.1)
    (λ a b. each_append (IsOpenLine P) (change_objects origin x) (objects origin xs) a b)

-- ---- an object and a line feed
pub all_of : {A : Type 0} (Holds : A → Type 0) (xs : List A) → EachHolds Holds xs → All Holds xs
all_of Holds xs h k d lt = Each1-get_or Holds xs k d lt h

pub each_of : {A : Type 0} (Holds : A → Type 0) (xs : List A) → All Holds xs → EachHolds Holds xs
each_of Holds [] h = tt
each_of Holds (x ∷ xs) h = (h 0 x (omega arith), each_of Holds xs (λ k d lt. h (suc k) d (omega (arith, lt))))

object_line : (P : Type 0) (text : List ℕ) → P → IsObject P text → IsObjectLine text
object_line P text p o = record {
  members = o.members;
  text = record { before = []; own = text; after = []; before_is = tt; own_is = o.is; after_is = tt; is = sym (append-nil text) };
  printable = all_of (λ b. 32 ≤ b) text o.printable;
  distinct = o.distinct p;
}

abbrev line_names : List (List ℕ)
line_names = front_names ++ (origin_names ++ back_names)

closed_line : (P : Type 0) (text : List ℕ) → IsOpenLine P text → IsObject P (text ++ codes "}")
closed_line P text o = opens_closed P (codes "type") line_names text tt o

committed_line : (P : Type 0) (text : List ℕ) → IsOpenLine P text → IsObject P (text ++ codes ",\"commit\":true}")
unfolding json_string
committed_line P text o =
    let all = opens_then P (codes "type") line_names (codes "commit" ∷ []) text (codes ",\"commit\":true") o (last_named P (codes "commit") (codes "true") tt (boolean_json P true)) in
    subst (IsObject P) (append_assoc text (codes ",\"commit\":true") (codes "}")) (opens_closed P (codes "type") (line_names ++ codes "commit" ∷ []) (text ++ codes ",\"commit\":true") tt all)

-- ---- a line for each object
abbrev closed : List (List ℕ) → List (List ℕ)
closed [] = []
closed (o ∷ os) = (o ++ end_by (codes "}") (codes ",\"commit\":true}") os) ∷ closed os

ended : (os : List (List ℕ)) → end_by (codes "}\n") (codes ",\"commit\":true}\n") os ≡ end_by (codes "}") (codes ",\"commit\":true}") os ++ 10 ∷ []
ended [] = refl
ended (o ∷ os) = refl

lines_are : (os : List (List ℕ)) → lines_of os ≡ flat_map (λ line. line ++ 10 ∷ []) (closed os)
unfolding with_ends
lines_are [] = refl
lines_are (o ∷ os) =
    let end = end_by (codes "}") (codes ",\"commit\":true}") os in
    let rest = flat_map (λ (line : List ℕ). line ++ 10 ∷ []) (closed os) in
    ap₂ (λ (a b : List ℕ). o ++ (a ++ b)) (ended os) (lines_are os) ∙ simp append_assoc

closed_lines : (P : Type 0) (os : List (List ℕ)) → P → EachHolds (IsOpenLine P) os → EachHolds IsObjectLine (closed os)
closed_lines P [] p h = tt
closed_lines P (o ∷ []) p h = (object_line P _ p (committed_line P o h.0), tt)
closed_lines P (o ∷ n ∷ os) p h = (object_line P _ p (closed_line P o h.0), closed_lines P (n ∷ os) p h.1)

object_lines : (P : Type 0) (os : List (List ℕ)) → P → EachHolds (IsOpenLine P) os → AreObjectLines (lines_of os)
object_lines P os p h = record { lines = closed os; are = all_of IsObjectLine (closed os) (closed_lines P os p h); is = lines_are os }

-- ---- one line
joined_ends : (os : List (List ℕ)) → with_ends (codes "},") (codes "}") os ≡ join_with_byte 44 (map (λ o. o ++ codes "}") os)
unfolding with_ends
joined_ends [] = refl
joined_ends (o ∷ []) = ap (λ (t : List ℕ). o ++ t) (append-nil (codes "}"))
joined_ends (o ∷ n ∷ os) = ap (λ (t : List ℕ). o ++ (codes "}," ++ t)) (joined_ends (n ∷ os)) ∙ sym (append_assoc o (codes "}") (44 ∷ join_with_byte 44 (map (λ o. o ++ codes "}") (n ∷ os))))

all_closed : (P : Type 0) (os : List (List ℕ)) → EachHolds (IsOpenLine P) os → AllJson P (map (λ o. o ++ codes "}") os)
all_closed P [] h = tt
all_closed P (o ∷ os) h = (object_value P (o ++ codes "}") (closed_line P o h.0), all_closed P os h.1)

transaction_opens : (P : Type 0) (h : Header) (origin : List ℕ) → IsLoggedHeader h → HasNamed P origin_names origin → Opens P (codes "ts") (codes "server_id" ∷ origin_names) (123 ∷ drop 1 (header_members h ++ origin))
unfolding json_string
transaction_opens P h origin l g =
    opens_then P (codes "ts") (codes "server_id" ∷ []) origin_names (123 ∷ drop 1 (header_members h)) origin
    (opens_with P (codes "ts") (decimal h.timestamp) (codes ",\"server_id\":" ++ decimal h.server_id) (codes "server_id" ∷ []) tt (decimal_json P h.timestamp (omega (arith, l.0)))
    (last_named P (codes "server_id") (decimal h.server_id) tt (decimal_json P h.server_id (omega (arith, l.1))))) g

whole_line : (P : Type 0) (start : List ℕ) (os : List (List ℕ)) → P → Opens P (codes "ts") (codes "server_id" ∷ origin_names) start → EachHolds (IsOpenLine P) os
    → AreObjectLines (start ++ (codes ",\"changes\":[" ++ (with_ends (codes "},") (codes "}") os ++ codes "]}\n")))
unfolding json_string
whole_line P start os p o h =
    let texts = map (λ (o : List ℕ). o ++ codes "}") os in
    let array = joined_array P texts (all_closed P os h) in
    let joined = join_with_byte 44 texts in
    let changes = codes ",\"changes\":[" ++ (joined ++ codes "]") in
    let all = opens_then P (codes "ts") (codes "server_id" ∷ origin_names) (codes "changes" ∷ []) start changes o (last_named P (codes "changes") (91 ∷ (joined ++ 93 ∷ [])) tt array) in
    let line = (start ++ changes) ++ codes "}" in
    let one : IsObjectLine line = object_line P line p (opens_closed P (codes "ts") ((codes "server_id" ∷ origin_names) ++ codes "changes" ∷ []) (start ++ changes) tt all) in
    record {
      lines = line ∷ [];
      are = all_of IsObjectLine (line ∷ []) (one, tt);
      is = ap (λ (t : List ℕ). start ++ (codes ",\"changes\":[" ++ (t ++ codes "]}\n"))) (joined_ends os) ∙ simp append_assoc;
    }

transaction_object : (P : Type 0) (h : Header) (origin : List ℕ) (os : List (List ℕ)) → P → IsLoggedHeader h → HasNamed P origin_names origin → EachHolds (IsOpenLine P) os → AreObjectLines (transaction_line (header_members h ++ origin) os)
transaction_object P h origin [] p l g all = record { lines = []; are = all_of IsObjectLine [] tt; is = refl }
transaction_object P h origin (o ∷ os) p l g all = whole_line P (123 ∷ drop 1 (header_members h ++ origin)) (o ∷ os) p (transaction_opens P h origin l g) all

-- ---- GTIDs
abbrev digit_in : ℕ → ℕ
digit_in k = slice_index lower_digits k

digit_plain : (k : ℕ) → k < 16 → is_plain (digit_in k) ≡ true
digit_plain k lt = true_of _ (upto_sound (λ i. is_plain (digit_in i)) 16 tt k lt)
  where
    true_of : (b : Bool) → T b → b ≡ true
    true_of true h = refl
    true_of false h = absurd h

hex_plain : (b : List ℕ) → AreBytes b → Plain (encode_lower b)
unfolding encode_with
hex_plain [] h = tt
hex_plain (x ∷ xs) h = (digit_plain (x / 16) (omega (arith, h 0)), (digit_plain (x % 16) (omega arith), hex_plain xs (λ i. h (suc i))))

uuid_plain : (u : List ℕ) → AreBytes u → Plain (uuid_text u)
uuid_plain u h =
    let part = λ (k n : ℕ). hex_plain (take k (drop n u)) (take_bytes k (drop n u) (drop_bytes n u h)) in
    let a = encode_lower (take 4 u) in
    let b = 45 ∷ encode_lower (take 2 (drop 4 u)) in
    let c = 45 ∷ encode_lower (take 2 (drop 6 u)) in
    let d = 45 ∷ encode_lower (take 2 (drop 8 u)) in
    let e = 45 ∷ encode_lower (drop 10 u) in
    let ab = plain_append a b (hex_plain (take 4 u) (take_bytes 4 u h)) (refl, part 2 4) in
    let abc = plain_append (a ++ b) c ab (refl, part 2 6) in
    let abcd = plain_append ((a ++ b) ++ c) d abc (refl, part 2 8) in
    plain_append (((a ++ b) ++ c) ++ d) e abcd (refl, hex_plain (drop 10 u) (drop_bytes 10 u h))

pub numbered_json : (P : Type 0) (uuid : List ℕ) (number : ℕ) (x : List ℕ) → AreBytes uuid → IsGtidJson (Some (Numbered uuid number)) x → IsJson P x
numbered_json P uuid number x h e =
    let text = uuid_text uuid ++ 58 ∷ decimal number in
    let same : 34 ∷ text ++ 34 ∷ [] ≡ x = ap (λ (t : List ℕ). 34 ∷ t) (append_assoc (uuid_text uuid) (58 ∷ decimal number) (34 ∷ [])) ∙ sym e in
    subst (IsJson P) same (quoted_json P text (plain_append (uuid_text uuid) (58 ∷ decimal number) (uuid_plain uuid h) (refl, decimal_plain number)))

-- a character of a tag
among : (b : ℕ) (l : List ℕ) → T (all_plain l) → list_any (λ c. c == b) l ≡ true → is_plain b ≡ true
among b [] h e = absurd (let wrong : false ≡ true = e in cc)
among b (c ∷ cs) h e = go (c == b) refl e (parts (is_plain c) (all_plain cs) h) (among b cs)
  where
    parts : (p q : Bool) → T (p && q) → (p ≡ true) × T q
    parts true q k = (refl, k)
    parts false q k = absurd k

    go : (t : Bool) → (c == b) ≡ t → (t || list_any (λ c. c == b) cs) ≡ true → (is_plain c ≡ true) × T (all_plain cs) → (T (all_plain cs) → list_any (λ c. c == b) cs ≡ true → is_plain b ≡ true) → is_plain b ≡ true
    go true f k p more = subst (λ (x : ℕ). is_plain x ≡ true) (eqb→eq c b (subst T (sym f) tt)) p.0
    go false f k p more = more p.1 k

tag_plain : (tag : List ℕ) → EachHolds (λ b. IsTrue (is_of_tag b)) tag → Plain tag
tag_plain [] h = tt
tag_plain (b ∷ bs) h = (among b tag_characters tt h.0, tag_plain bs h.1)

pub tagged_is_json : (P : Type 0) (body : List ℕ) (g : Option TaggedGtid) → IsTagRead g → IsJson P (tagged_json body g)
tagged_is_json P body None h = base64_object_json P body
tagged_is_json P body (Some g) h =
    let u = uuid_text g.uuid in
    let text = (u ++ 58 ∷ g.tag) ++ 58 ∷ decimal g.number in
    let plain = plain_append (u ++ 58 ∷ g.tag) (58 ∷ decimal g.number) (plain_append u (58 ∷ g.tag) (uuid_plain g.uuid h.0) (refl, tag_plain g.tag (each_of (λ b. IsTrue (is_of_tag b)) g.tag h.1))) (refl, decimal_plain g.number) in
    subst (IsJson P) (simp append_assoc) (quoted_json P text plain)

-- a GTID of MariaDB
pub mariadb_is_json : (P : Type 0) (g : MariadbGtid) → IsJson P (mariadb_json g)
mariadb_is_json P g =
    let text = (decimal g.domain ++ 45 ∷ decimal g.server) ++ 45 ∷ decimal g.sequence in
    let plain = plain_append (decimal g.domain ++ 45 ∷ decimal g.server) (45 ∷ decimal g.sequence) (plain_append (decimal g.domain) (45 ∷ decimal g.server) (decimal_plain g.domain) (refl, decimal_plain g.server)) (refl, decimal_plain g.sequence) in
    subst (IsJson P) (simp append_assoc) (quoted_json P text plain)

-- ---- the law
pub lines_law : (options : TableOptions) (added : AddedMembers) (by_transaction : Bool) (file gtid : List ℕ) (t : Committed) (facts : TransactionFacts) (changes : List EventChange) (xs : List ChangeJson) → IsJson (Unit {0}) gtid → IsLoggedHeader t.commit
    → All IsLoggedChange changes → AreLoggedRows added t.changes → AreLoggedFacts added facts → AreChangesJson options added t.changes changes xs → ∥ AreObjectLines (transaction_lines by_transaction file t gtid (transaction_members added facts) xs) ∥₁
lines_law options added by_transaction file gtid t facts changes xs g l c n f e = go by_transaction
  where
    origin : List ℕ
    origin = origin_members gtid file t.commit.log_pos ++ transaction_members added facts

    named : HasNamed (Unit {0}) origin_names origin
    named = both_named (Unit {0}) (codes "gtid" ∷ codes "file" ∷ codes "position" ∷ []) (codes "resume" ∷ codes "begin" ∷ codes "ts_ms" ∷ codes "xid" ∷ codes "thread_id" ∷ []) (origin_members gtid file t.commit.log_pos) (transaction_members added facts)
        (origin_named (Unit {0}) gtid file t.commit.log_pos g l.2) (transaction_named (Unit {0}) added facts f)

    all : (members : List ℕ) → HasNamed (Unit {0}) origin_names members → ∥ EachHolds (IsOpenLine (Unit {0})) (objects members xs) ∥₁
    all members m = changes_objects (Unit {0}) options added t.changes changes xs members m (each_of IsLoggedChange changes c) n e

    go : (by : Bool) → ∥ AreObjectLines (transaction_lines by file t gtid (transaction_members added facts) xs) ∥₁
    go true = ∥∥₁_map (all [] (none_named (Unit {0}) origin_names)) (λ h. transaction_object (Unit {0}) t.commit origin (objects [] xs) tt l named h)
    go false = ∥∥₁_map (all origin named) (λ h. object_lines (Unit {0}) (objects origin xs) tt h)

pub tagged_law : (options : TableOptions) (added : AddedMembers) (by_transaction : Bool) (file body : List ℕ) (g : Option TaggedGtid) (t : Committed) (facts : TransactionFacts) (changes : List EventChange) (xs : List ChangeJson) → IsTagRead g
    → IsLoggedHeader t.commit → All IsLoggedChange changes → AreLoggedRows added t.changes → AreLoggedFacts added facts → AreChangesJson options added t.changes changes xs
    → ∥ AreObjectLines (transaction_lines by_transaction file t (tagged_json body g) (transaction_members added facts) xs) ∥₁
tagged_law options added by_transaction file body g t facts changes xs h l c n f e = lines_law options added by_transaction file (tagged_json body g) t facts changes xs (tagged_is_json (Unit {0}) body g h) l c n f e
