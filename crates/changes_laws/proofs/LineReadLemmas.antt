-- The line of a change shows its parts.
use Rattle.std.proofs.Common.{◌≡◌, ℕ, ◌<◌, ◌^◌, Bool, true, false, List, [], ◌∷◌, ◌++◌, refl, sym, ap, ◌∙◌, append_assoc, arith}
use Rattle.std.specs.Prelude.{codes, if◌then◌else◌}
use Rattle.std.specs.Fmt.{decimal}
use Rattle.std.specs.Str.{is_utf8}
use Rattle.std.proofs.lemmas.Bool.{true≢false}
use Rattle.std.proofs.lemmas.List.{append_cancel_left}
use Rattle.std.proofs.lemmas.Fmt.{decimal_injective}
use Rattle.base64.specs.GeneralPurpose.{IsBytes}
use Rattle.events_frames.specs.Headers.{Header}
use Rattle.rows_table_map.specs.TableMaps.{TableMap}
use Rattle.rows_event_body.specs.declared.rows_event_type.RowImages.{RowImages}
use Rattle.feed_transactions.specs.MappedRows.{Change, Insert, Update, Delete, change_by}
use Rattle.changes_writers.specs.Base64Texts.{base64_object}
use Rattle.changes_writers.specs.JsonStrings.{json_string}
use Rattle.changes_writers.proofs.StringLawLemmas.{strings_read, base64_objects_read, no_object}
use Rattle.changes_tables.specs.MemberTexts.{utf8_json}
use Rattle.changes_tables.specs.ShownTables.{names_member}
use Rattle.changes_lines.specs.ChangeLines.{change_word, key_of, rows_back, rows_front}
use Rattle.changes_lines.specs.Origins.{header_members, origin_members}
use Rattle.changes_laws.specs.JsonGrammar.{IsAfterValue}
use Rattle.changes_laws.specs.JsonLines.{IsJsonValue, IsLoggedHeader}
use Rattle.changes_laws.specs.SameCells.{ShowsOrigin}
use Rattle.changes_laws.proofs.WrittenJson.{IsJson}
use Rattle.changes_laws.proofs.NumberGrammarLemmas.{decimal_json}
use Rattle.changes_laws.proofs.ValueEnds.{values_end}
use Rattle.changes_laws.proofs.DateReadLemmas.{is_digit}
use Rattle.changes_laws.proofs.MemberReadLemmas.{first_digit, first as head_of}
use Rattle.changes_laws.proofs.PlainGrammarLemmas.{utf8_or_object}

-- ---- leaves
json_read : (x y s t : List ℕ) → IsJson (Unit {0}) x → IsJson (Unit {0}) y → IsAfterValue s → IsAfterValue t → x ++ s ≡ y ++ t → (x ≡ y) × (s ≡ t)
json_read x y s t j k a b e = values_end j.value k.value x y s t j.is k.is a b e

pub number_read : (m n : ℕ) (s t : List ℕ) → m < 2 ^ 64 → n < 2 ^ 64 → IsAfterValue s → IsAfterValue t → decimal m ++ s ≡ decimal n ++ t → (m ≡ n) × (s ≡ t)
number_read m n s t p q a b e =
    let f = json_read (decimal m) (decimal n) s t (decimal_json (Unit {0}) m (omega (arith, p))) (decimal_json (Unit {0}) n (omega (arith, q))) a b e in
    (decimal_injective m n p q f.0, f.1)

-- bytes that are UTF-8 or not
pub utf8_read : (m n s t : List ℕ) → IsBytes m → IsBytes n → utf8_json m ++ s ≡ utf8_json n ++ t → (m ≡ n) × (s ≡ t)
utf8_read m n s t p q e = go (is_utf8 m) (is_utf8 n) e
  where
    go : (k l : Bool) → (if k then json_string m else base64_object m) ++ s ≡ (if l then json_string n else base64_object n) ++ t → (m ≡ n) × (s ≡ t)
    go true true f = strings_read m n s t f
    go true false f = absurd (no_object m n s t f)
    go false true f = absurd (no_object n m t s (sym f))
    go false false f = base64_objects_read m n s t p q f

-- a number is no text
no_digit : (n c : ℕ) (rest : List ℕ) → n < 2 ^ 64 → is_digit c ≡ false → decimal n ≡ c ∷ rest → ⊥
no_digit n c rest lt other e = true≢false (sym (first_digit n lt) ∙ ap (λ (l : List ℕ). is_digit (head_of l)) e ∙ other)

no_string : (n : ℕ) (b : List ℕ) → n < 2 ^ 64 → decimal n ≡ json_string b → ⊥
unfolding json_string
no_string n b lt e = no_digit n 34 _ lt refl e

no_base64 : (n : ℕ) (b : List ℕ) → n < 2 ^ 64 → decimal n ≡ base64_object b → ⊥
unfolding base64_object
no_base64 n b lt e = no_digit n 123 _ lt refl e

pub number_no_text : (n : ℕ) (b s t : List ℕ) → n < 2 ^ 64 → IsAfterValue s → IsAfterValue t → decimal n ++ s ≡ utf8_json b ++ t → ⊥
number_no_text n b s t lt a k e = go (is_utf8 b) (json_read (decimal n) (utf8_json b) s t (decimal_json (Unit {0}) n (omega (arith, lt))) (utf8_or_object (Unit {0}) b) a k e).0
  where
    go : (u : Bool) → decimal n ≡ (if u then json_string b else base64_object b) → ⊥
    go true f = no_string n b lt f
    go false f = no_base64 n b lt f

-- ---- words
abbrev first : List ℕ → ℕ
first [] = 0
first (x ∷ xs) = x

words_read : (a b : Change) (s t : List ℕ) → change_word a ++ 34 ∷ s ≡ change_word b ++ 34 ∷ t → (a ≡ b) × (s ≡ t)
words_read Insert Insert s t e = (refl, append_cancel_left (codes "insert\"") s t e)
words_read Update Update s t e = (refl, append_cancel_left (codes "update\"") s t e)
words_read Delete Delete s t e = (refl, append_cancel_left (codes "delete\"") s t e)
words_read Insert Update s t e = absurd (let no : 105 ≡ 117 = ap first e in omega (arith, no))
words_read Insert Delete s t e = absurd (let no : 105 ≡ 100 = ap first e in omega (arith, no))
words_read Update Insert s t e = absurd (let no : 117 ≡ 105 = ap first e in omega (arith, no))
words_read Update Delete s t e = absurd (let no : 117 ≡ 100 = ap first e in omega (arith, no))
words_read Delete Insert s t e = absurd (let no : 100 ≡ 105 = ap first e in omega (arith, no))
words_read Delete Update s t e = absurd (let no : 100 ≡ 117 = ap first e in omega (arith, no))

-- ---- the members of a line
pub header_read : (h k : Header) (s t : List ℕ) → IsLoggedHeader h → IsLoggedHeader k → IsAfterValue s → IsAfterValue t → header_members h ++ s ≡ header_members k ++ t → (h.timestamp ≡ k.timestamp) × (h.server_id ≡ k.server_id) × (s ≡ t)
header_read h k s t p q a b e =
    let ts = codes ",\"ts\":" in
    let rest = λ (x : Header) (y : List ℕ). codes ",\"server_id\":" ++ (decimal x.server_id ++ y) in
    let parts = λ (x : Header) (y : List ℕ). append_assoc (decimal x.timestamp) (codes ",\"server_id\":" ++ decimal x.server_id) y in
    let f = append_cancel_left ts (decimal h.timestamp ++ rest h s) (decimal k.timestamp ++ rest k t) (sym (ap (λ (y : List ℕ). ts ++ y) (parts h s)) ∙ e ∙ ap (λ (y : List ℕ). ts ++ y) (parts k t)) in
    let g = number_read h.timestamp k.timestamp (rest h s) (rest k t) p.0 q.0 refl refl f in
    let i = number_read h.server_id k.server_id s t p.1 q.1 a b (append_cancel_left (codes ",\"server_id\":") (decimal h.server_id ++ s) (decimal k.server_id ++ t) g.1) in
    (g.0, i.0, i.1)

origin_text : (gtid file : List ℕ) (position : ℕ) (s : List ℕ) → origin_members gtid file position ++ s ≡ codes ",\"gtid\":" ++ (gtid ++ (codes ",\"file\":" ++ (utf8_json file ++ (codes ",\"position\":" ++ (decimal position ++ s)))))
origin_text gtid file position s = simp append_assoc

pub origin_read : (g h file name : List ℕ) (p q : ℕ) (s t : List ℕ) → IsJsonValue g → IsJsonValue h → IsBytes file → IsBytes name → p < 2 ^ 64 → q < 2 ^ 64 → IsAfterValue s → IsAfterValue t
    → origin_members g file p ++ s ≡ origin_members h name q ++ t → (g ≡ h) × (file ≡ name) × (p ≡ q) × (s ≡ t)
origin_read g h file name p q s t jg jh bf bn lp lq a b e =
    let after_file = λ (n : ℕ) (y : List ℕ). codes ",\"position\":" ++ (decimal n ++ y) in
    let after_gtid = λ (f : List ℕ) (n : ℕ) (y : List ℕ). codes ",\"file\":" ++ (utf8_json f ++ after_file n y) in
    let f = append_cancel_left (codes ",\"gtid\":") (g ++ after_gtid file p s) (h ++ after_gtid name q t) (sym (origin_text g file p s) ∙ e ∙ origin_text h name q t) in
    let i = values_end jg.value jh.value g h (after_gtid file p s) (after_gtid name q t) jg.text_is jh.text_is refl refl f in
    let j = utf8_read file name (after_file p s) (after_file q t) bf bn (append_cancel_left (codes ",\"file\":") (utf8_json file ++ after_file p s) (utf8_json name ++ after_file q t) i.1) in
    let k = number_read p q s t lp lq a b (append_cancel_left (codes ",\"position\":") (decimal p ++ s) (decimal q ++ t) j.1) in
    (i.0, j.0, k.0, k.1)

front_text : (images : RowImages) (m : TableMap) (h : Header) (s : List ℕ) → rows_front images m h ++ s ≡ codes "{\"type\":\"" ++ (change_word (change_by images) ++ (34 ∷ (44 ∷ (names_member m ++ (header_members h ++ s)))))
front_text images m h s =
    ap (λ (y : List ℕ). codes "{\"type\":\"" ++ y) (append_assoc (change_word (change_by images)) (codes "\"," ++ (names_member m ++ header_members h)) s ∙ ap (λ (y : List ℕ). change_word (change_by images) ++ (34 ∷ (44 ∷ y))) (append_assoc (names_member m) (header_members h) s))

pub front_read : (a b : RowImages) (m : TableMap) (h k : Header) (s t : List ℕ) → IsLoggedHeader h → IsLoggedHeader k → IsAfterValue s → IsAfterValue t → rows_front a m h ++ s ≡ rows_front b m k ++ t
    → (change_by a ≡ change_by b) × (h.timestamp ≡ k.timestamp) × (h.server_id ≡ k.server_id) × (s ≡ t)
front_read a b m h k s t p q u v e =
    let f = append_cancel_left (codes "{\"type\":\"") (change_word (change_by a) ++ (34 ∷ (44 ∷ (names_member m ++ (header_members h ++ s))))) (change_word (change_by b) ++ (34 ∷ (44 ∷ (names_member m ++ (header_members k ++ t))))) (sym (front_text a m h s) ∙ e ∙ front_text b m k t) in
    let g = words_read (change_by a) (change_by b) (44 ∷ (names_member m ++ (header_members h ++ s))) (44 ∷ (names_member m ++ (header_members k ++ t))) f in
    let i = header_read h k s t p q u v (append_cancel_left (44 ∷ names_member m) (header_members h ++ s) (header_members k ++ t) g.1) in
    (g.0, i.0, i.1, i.2)

back_follows : (key rest : List ℕ) → IsAfterValue (rows_back key [] ++ rest)
back_follows [] rest = refl
back_follows (b ∷ bs) rest = refl

pub line_read : (a b : RowImages) (m : TableMap) (h k : Header) (g i file name : List ℕ) (p q : ℕ) (s t : List ℕ) → IsLoggedHeader h → IsLoggedHeader k → IsJsonValue g → IsJsonValue i → IsBytes file → IsBytes name → p < 2 ^ 64 → q < 2 ^ 64
    → rows_front a m h ++ (origin_members g file p ++ (rows_back (key_of m) [] ++ s)) ≡ rows_front b m k ++ (origin_members i name q ++ (rows_back (key_of m) [] ++ t)) → ShowsOrigin a b h k g i file name p q × (s ≡ t)
line_read a b m h k g i file name p q s t lh lk jg ji bf bn lp lq e =
    let back = rows_back (key_of m) [] in
    let f = front_read a b m h k (origin_members g file p ++ (back ++ s)) (origin_members i name q ++ (back ++ t)) lh lk refl refl e in
    let o = origin_read g i file name p q (back ++ s) (back ++ t) jg ji bf bn lp lq (back_follows (key_of m) s) (back_follows (key_of m) t) f.3 in
    (record { change = f.0; time = f.1; server = f.2; gtid_is = o.0; file_is = o.1; position_is = o.2 }, append_cancel_left back s t o.3)

-- ---- statements
pub statement_text : (schema : List ℕ) (h : Header) (s : List ℕ) → (codes "{\"type\":\"statement\",\"database\":" ++ (utf8_json schema ++ header_members h)) ++ s ≡ codes "{\"type\":\"statement\",\"database\":" ++ (utf8_json schema ++ (header_members h ++ s))
statement_text schema h s = ap (λ (y : List ℕ). codes "{\"type\":\"statement\",\"database\":" ++ y) (append_assoc (utf8_json schema) (header_members h) s)

pub statement_read : (schema other query text : List ℕ) (h k : Header) (g i file name : List ℕ) (p q : ℕ) (s t : List ℕ) → IsLoggedHeader h → IsLoggedHeader k → IsJsonValue g → IsJsonValue i → IsBytes schema → IsBytes other → IsBytes query → IsBytes text
    → IsBytes file → IsBytes name → p < 2 ^ 64 → q < 2 ^ 64
    → (codes "{\"type\":\"statement\",\"database\":" ++ (utf8_json schema ++ header_members h)) ++ (origin_members g file p ++ (codes ",\"sql\":" ++ (utf8_json query ++ s)))
    ≡ (codes "{\"type\":\"statement\",\"database\":" ++ (utf8_json other ++ header_members k)) ++ (origin_members i name q ++ (codes ",\"sql\":" ++ (utf8_json text ++ t)))
    → (schema ≡ other) × (h.timestamp ≡ k.timestamp) × (h.server_id ≡ k.server_id) × (g ≡ i) × (file ≡ name) × (p ≡ q) × (query ≡ text) × (s ≡ t)
statement_read schema other query text h k g i file name p q s t lh lk jg ji bs bo bq bt bf bn lp lq e =
    let left = codes ",\"sql\":" ++ (utf8_json query ++ s) in
    let right = codes ",\"sql\":" ++ (utf8_json text ++ t) in
    let start = codes "{\"type\":\"statement\",\"database\":" in
    let whole = sym (statement_text schema h (origin_members g file p ++ left)) ∙ e ∙ statement_text other k (origin_members i name q ++ right) in
    let a = utf8_read schema other (header_members h ++ (origin_members g file p ++ left)) (header_members k ++ (origin_members i name q ++ right)) bs bo (append_cancel_left start _ _ whole) in
    let b = header_read h k (origin_members g file p ++ left) (origin_members i name q ++ right) lh lk refl refl a.1 in
    let c = origin_read g i file name p q left right jg ji bf bn lp lq refl refl b.2 in
    let d = utf8_read query text s t bq bt (append_cancel_left (codes ",\"sql\":") (utf8_json query ++ s) (utf8_json text ++ t) c.3) in
    (a.0, b.0, b.1, c.0, c.1, c.2, d.0, d.1)
