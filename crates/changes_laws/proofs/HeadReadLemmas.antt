-- What a line shows of its transaction before its rows or changes, with members on request.
use Rattle.std.proofs.Common.{◌≡◌, ℕ, ◌<◌, ◌^◌, Bool, true, false, List, [], ◌∷◌, ◌++◌, drop, Option, Some, None, refl, sym, ap, ◌∙◌, subst, append_assoc, arith}
use Rattle.std.specs.Prelude.{codes, option_map, slice_index}
use Rattle.std.specs.Fmt.{decimal}
use Rattle.std.proofs.lemmas.Bool.{false≢true}
use Rattle.std.proofs.lemmas.List.{append_cancel_left}
use Rattle.wire_buf.specs.Encoding.{AreBytes}
use Rattle.events_frames.specs.Headers.{Header}
use Rattle.rows_table_map.specs.TableMaps.{TableMap}
use Rattle.rows_event_body.specs.declared.rows_event_type.RowImages.{RowImages}
use Rattle.changes_tables.specs.MemberTexts.{utf8_json}
use Rattle.changes_tables.specs.PrimaryKeys.{key_member}
use Rattle.changes_lines.specs.ChangeLines.{key_of, rows_back, rows_front}
use Rattle.changes_lines.specs.FactMembers.{LogPlace, OfNumber, OfText, TransactionFacts, TransactionXid, asked_members, number_member, place_text, query_member, resume_member, transaction_members, xid_member, xid_value}
use Rattle.changes_lines.specs.Origins.{header_members, origin_members}
use Rattle.changes_origins.specs.declared.added_members.AddedMembers.{AddedMembers}
use Rattle.changes_laws.specs.JsonGrammar.{IsAfterValue}
use Rattle.changes_laws.specs.JsonLines.{AreLoggedFactsFrom, IsJsonValue, IsLoggedHeader, IsLoggedNumber, IsLoggedPlace, IsLoggedXid}
use Rattle.changes_laws.specs.SameCells.{AreQueryBytes, ShowsFacts, ShowsHead, ShowsOrigin}
use Rattle.changes_laws.proofs.LineReadLemmas.{front_read, header_read, number_no_text, number_read, origin_read, statement_text, utf8_read}

abbrev others : List ℕ → List ℕ
others [] = []
others (x ∷ xs) = xs

-- ---- names by their first two letters
abbrev IsUnlike : ℕ → ℕ → List ℕ → Type 0
IsUnlike c d text = slice_index text 2 ≡ c → slice_index text 3 ≡ d → ⊥

unlike_member : (asked : Bool) (a b c d : ℕ) (k : List ℕ) (o : Option ℕ) (s : List ℕ) (x y : ℕ) → (c ≡ x → d ≡ y → ⊥) → IsUnlike x y s → IsUnlike x y (number_member asked (a ∷ b ∷ c ∷ d ∷ k) o ++ s)
unlike_member false a b c d k o s x y h u = u
unlike_member true a b c d k None s x y h u = u
unlike_member true a b c d k (Some n) s x y h u = h

after_member : (asked : Bool) (k : List ℕ) (o : Option ℕ) (s : List ℕ) → IsAfterValue s → IsAfterValue (number_member asked (44 ∷ k) o ++ s)
after_member false k o s h = h
after_member true k None s h = h
after_member true k (Some n) s h = refl

-- ---- one member
member_read : (asked : Bool) (a b c d : ℕ) (k : List ℕ) (o p : Option ℕ) (s t : List ℕ) → IsLoggedNumber asked o → IsLoggedNumber asked p → IsAfterValue s → IsAfterValue t → IsUnlike c d s → IsUnlike c d t
    → number_member asked (a ∷ b ∷ c ∷ d ∷ k) o ++ s ≡ number_member asked (a ∷ b ∷ c ∷ d ∷ k) p ++ t → (asked ≡ true → o ≡ p) × (s ≡ t)
member_read false a b c d k o p s t h i sa ta us ut e = (λ f. absurd (false≢true f), e)
member_read true a b c d k None None s t h i sa ta us ut e = (λ f. refl, e)
member_read true a b c d k None (Some n) s t h i sa ta us ut e = absurd (us (ap (λ (l : List ℕ). slice_index l 2) e) (ap (λ (l : List ℕ). slice_index l 3) e))
member_read true a b c d k (Some m) None s t h i sa ta us ut e = absurd (ut (ap (λ (l : List ℕ). slice_index l 2) (sym e)) (ap (λ (l : List ℕ). slice_index l 3) (sym e)))
member_read true a b c d k (Some m) (Some n) s t h i sa ta us ut e =
    let key = a ∷ b ∷ c ∷ d ∷ k in
    let f = number_read m n s t h i sa ta (append_cancel_left key (decimal m ++ s) (decimal n ++ t) (sym (append_assoc key (decimal m) s) ∙ e ∙ append_assoc key (decimal n) t)) in
    (λ g. ap (λ (x : ℕ). Some x) f.0, f.1)

-- ---- the XID
unlike_xid : (asked : Bool) (o : Option TransactionXid) (s : List ℕ) (x y : ℕ) → (120 ≡ x → 105 ≡ y → ⊥) → IsUnlike x y s → IsUnlike x y (xid_member asked o ++ s)
unlike_xid false o s x y h u = u
unlike_xid true None s x y h u = u
unlike_xid true (Some xid) s x y h u = h

after_xid : (asked : Bool) (o : Option TransactionXid) (s : List ℕ) → IsAfterValue s → IsAfterValue (xid_member asked o ++ s)
after_xid false o s h = h
after_xid true None s h = h
after_xid true (Some xid) s h = refl

value_read : (x y : TransactionXid) (s t : List ℕ) → IsLoggedXid true (Some x) → IsLoggedXid true (Some y) → IsAfterValue s → IsAfterValue t → xid_value x ++ s ≡ xid_value y ++ t → (Some x ≡ Some y) × (s ≡ t)
value_read (OfNumber m) (OfNumber n) s t h i sa ta e = let f = number_read m n s t h i sa ta e in (ap (λ (k : ℕ). Some (OfNumber k)) f.0, f.1)
value_read (OfText a) (OfText b) s t h i sa ta e = let f = utf8_read a b s t h i e in (ap (λ (l : List ℕ). Some (OfText l)) f.0, f.1)
value_read (OfNumber m) (OfText b) s t h i sa ta e = absurd (number_no_text m b s t h sa ta e)
value_read (OfText a) (OfNumber n) s t h i sa ta e = absurd (number_no_text n a t s i ta sa (sym e))

xid_read : (asked : Bool) (o p : Option TransactionXid) (s t : List ℕ) → IsLoggedXid asked o → IsLoggedXid asked p → IsAfterValue s → IsAfterValue t → IsUnlike 120 105 s → IsUnlike 120 105 t → xid_member asked o ++ s ≡ xid_member asked p ++ t → (asked ≡ true → o ≡ p) × (s ≡ t)
xid_read false o p s t h i sa ta us ut e = (λ f. absurd (false≢true f), e)
xid_read true None None s t h i sa ta us ut e = (λ f. refl, e)
xid_read true None (Some y) s t h i sa ta us ut e = absurd (us (ap (λ (l : List ℕ). slice_index l 2) e) (ap (λ (l : List ℕ). slice_index l 3) e))
xid_read true (Some x) None s t h i sa ta us ut e = absurd (ut (ap (λ (l : List ℕ). slice_index l 2) (sym e)) (ap (λ (l : List ℕ). slice_index l 3) (sym e)))
xid_read true (Some x) (Some y) s t h i sa ta us ut e =
    let key = codes ",\"xid\":" in
    let f = value_read x y s t h i sa ta (append_cancel_left key (xid_value x ++ s) (xid_value y ++ t) (sym (append_assoc key (xid_value x) s) ∙ e ∙ append_assoc key (xid_value y) t)) in
    (λ g. f.0, f.1)

-- ---- where reading can begin again
after_resume : (o : Option LogPlace) (s : List ℕ) → IsAfterValue s → IsAfterValue (resume_member o ++ s)
after_resume None s h = h
after_resume (Some p) s h = refl

resume_read : (o p : Option LogPlace) (s t : List ℕ) → IsLoggedPlace o → IsLoggedPlace p → IsUnlike 114 101 s → IsUnlike 114 101 t → resume_member o ++ s ≡ resume_member p ++ t → (option_map place_text o ≡ option_map place_text p) × (s ≡ t)
resume_read None None s t h i us ut e = (refl, e)
resume_read None (Some y) s t h i us ut e = absurd (us (ap (λ (l : List ℕ). slice_index l 2) e) (ap (λ (l : List ℕ). slice_index l 3) e))
resume_read (Some x) None s t h i us ut e = absurd (ut (ap (λ (l : List ℕ). slice_index l 2) (sym e)) (ap (λ (l : List ℕ). slice_index l 3) (sym e)))
resume_read (Some x) (Some y) s t h i us ut e =
    let key = codes ",\"resume\":" in
    let f = utf8_read (place_text x) (place_text y) s t h i (append_cancel_left key (utf8_json (place_text x) ++ s) (utf8_json (place_text y) ++ t) (sym (append_assoc key (utf8_json (place_text x)) s) ∙ e ∙ append_assoc key (utf8_json (place_text y)) t)) in
    (ap (λ (l : List ℕ). Some l) f.0, f.1)

-- ---- those of a transaction
-- what comes after them: a comma and a name that begins with another letter than theirs
pub record IsAfterFacts (s : List ℕ) : Type 0 where
  pub value : IsAfterValue s
  pub no_r : slice_index s 2 ≡ 114 → ⊥
  pub no_t : slice_index s 2 ≡ 116 → ⊥
  pub no_x : slice_index s 2 ≡ 120 → ⊥

xid_unlike : (a : AddedMembers) (x : TransactionFacts) (y : List ℕ) → IsAfterFacts y → IsUnlike 120 105 (number_member a.thread_id (codes ",\"thread_id\":") x.thread_id ++ y)
xid_unlike a x y h = unlike_member a.thread_id 44 34 116 104 (codes "read_id\":") x.thread_id y 120 105 (λ e f. omega (arith, e)) (λ e f. h.no_x e)

ts_unlike : (a : AddedMembers) (x : TransactionFacts) (y : List ℕ) → IsAfterFacts y → IsUnlike 116 115 (xid_member a.xid x.xid ++ (number_member a.thread_id (codes ",\"thread_id\":") x.thread_id ++ y))
ts_unlike a x y h =
    unlike_xid a.xid x.xid (number_member a.thread_id (codes ",\"thread_id\":") x.thread_id ++ y) 116 115 (λ e f. omega (arith, e))
    (unlike_member a.thread_id 44 34 116 104 (codes "read_id\":") x.thread_id y 116 115 (λ e f. omega (arith, f)) (λ e f. h.no_t e))

begin_read : (a : AddedMembers) (f g : TransactionFacts) (s t : List ℕ) → IsLoggedNumber a.begin (Some f.begin) → IsLoggedNumber a.begin (Some g.begin) → IsAfterValue s → IsAfterValue t
    → number_member a.begin (codes ",\"begin\":") (Some f.begin) ++ s ≡ number_member a.begin (codes ",\"begin\":") (Some g.begin) ++ t → (a.begin ≡ true → f.begin ≡ g.begin) × (s ≡ t)
begin_read a f g s t l m sa ta e = go a.begin l m e
  where
    go : (asked : Bool) → IsLoggedNumber asked (Some f.begin) → IsLoggedNumber asked (Some g.begin) → number_member asked (codes ",\"begin\":") (Some f.begin) ++ s ≡ number_member asked (codes ",\"begin\":") (Some g.begin) ++ t → (asked ≡ true → f.begin ≡ g.begin) × (s ≡ t)
    go false p q i = (λ x. absurd (false≢true x), i)
    go true p q i =
        let r = number_read f.begin g.begin s t p q sa ta (append_cancel_left (codes ",\"begin\":") (decimal f.begin ++ s) (decimal g.begin ++ t) i) in
        (λ x. r.0, r.1)

-- the members one after the other
asked_parts : (a : AddedMembers) (f : TransactionFacts) (s : List ℕ) → asked_members a f ++ s ≡ number_member a.begin (codes ",\"begin\":") (Some f.begin) ++ (number_member a.ts_ms (codes ",\"ts_ms\":") f.ts_ms ++ (xid_member a.xid f.xid ++ (number_member a.thread_id (codes ",\"thread_id\":") f.thread_id ++ s)))
asked_parts a f s =
    let one = number_member a.begin (codes ",\"begin\":") (Some f.begin) in
    let two = number_member a.ts_ms (codes ",\"ts_ms\":") f.ts_ms in
    let three = xid_member a.xid f.xid in
    let four = number_member a.thread_id (codes ",\"thread_id\":") f.thread_id in
    append_assoc one (two ++ (three ++ four)) s ∙ ap (λ (z : List ℕ). one ++ z) (append_assoc two (three ++ four) s ∙ ap (λ (z : List ℕ). two ++ z) (append_assoc three four s))

asked_unlike : (a : AddedMembers) (f : TransactionFacts) (s : List ℕ) → IsAfterFacts s → IsUnlike 114 101 (asked_members a f ++ s)
asked_unlike a f s h = subst (IsUnlike 114 101) (sym (asked_parts a f s))
    (unlike_member a.begin 44 34 98 101 (codes "gin\":") (Some f.begin) _ 114 101 (λ e g. omega (arith, e))
    (unlike_member a.ts_ms 44 34 116 115 (codes "_ms\":") f.ts_ms _ 114 101 (λ e g. omega (arith, e))
    (unlike_xid a.xid f.xid _ 114 101 (λ e g. omega (arith, e))
    (unlike_member a.thread_id 44 34 116 104 (codes "read_id\":") f.thread_id s 114 101 (λ e g. omega (arith, e)) (λ e g. h.no_r e)))))

pub facts_read : (a : AddedMembers) (f g : TransactionFacts) (s t : List ℕ) → AreLoggedFactsFrom a f → AreLoggedFactsFrom a g → IsAfterFacts s → IsAfterFacts t → transaction_members a f ++ s ≡ transaction_members a g ++ t → ShowsFacts a f g × (s ≡ t)
facts_read a f g s t l m sa ta e =
    let thread = codes ",\"thread_id\":" in
    let four = λ (x : TransactionFacts) (y : List ℕ). number_member a.thread_id thread x.thread_id ++ y in
    let three = λ (x : TransactionFacts) (y : List ℕ). xid_member a.xid x.xid ++ four x y in
    let two = λ (x : TransactionFacts) (y : List ℕ). number_member a.ts_ms (codes ",\"ts_ms\":") x.ts_ms ++ three x y in
    let value4 = λ (x : TransactionFacts) (y : List ℕ) (h : IsAfterFacts y). after_member a.thread_id (others thread) x.thread_id y h.value in
    let value3 = λ (x : TransactionFacts) (y : List ℕ) (h : IsAfterFacts y). after_xid a.xid x.xid (four x y) (value4 x y h) in
    let value2 = λ (x : TransactionFacts) (y : List ℕ) (h : IsAfterFacts y). after_member a.ts_ms (others (codes ",\"ts_ms\":")) x.ts_ms (three x y) (value3 x y h) in
    let zero = resume_read f.resume g.resume (asked_members a f ++ s) (asked_members a g ++ t) l.1 m.1 (asked_unlike a f s sa) (asked_unlike a g t ta) (sym (append_assoc (resume_member f.resume) (asked_members a f) s) ∙ e ∙ append_assoc (resume_member g.resume) (asked_members a g) t) in
    let one = begin_read a f g (two f s) (two g t) l.0.0 m.0.0 (value2 f s sa) (value2 g t ta) (sym (asked_parts a f s) ∙ zero.1 ∙ asked_parts a g t) in
    let i2 = member_read a.ts_ms 44 34 116 115 (codes "_ms\":") f.ts_ms g.ts_ms (three f s) (three g t) l.0.1 m.0.1 (value3 f s sa) (value3 g t ta) (ts_unlike a f s sa) (ts_unlike a g t ta) one.1 in
    let i3 = xid_read a.xid f.xid g.xid (four f s) (four g t) l.0.2 m.0.2 (value4 f s sa) (value4 g t ta) (xid_unlike a f s sa) (xid_unlike a g t ta) i2.1 in
    let i4 = member_read a.thread_id 44 34 116 104 (codes "read_id\":") f.thread_id g.thread_id s t l.0.3 m.0.3 sa.value ta.value (λ x y. sa.no_t x) (λ x y. ta.no_t x) i3.1 in
    (record { begin = one.0; ts_ms = i2.0; xid = i3.0; thread_id = i4.0; resume = zero.0 }, i4.1)

-- ---- the members of a transaction
abbrev origin_with : AddedMembers → List ℕ → List ℕ → ℕ → TransactionFacts → List ℕ
origin_with a gtid file position f = origin_members gtid file position ++ transaction_members a f

after_facts : (a : AddedMembers) (f : TransactionFacts) (s : List ℕ) → IsAfterFacts s → IsAfterValue (transaction_members a f ++ s)
after_facts a f s h =
    subst IsAfterValue (sym (append_assoc (resume_member f.resume) (asked_members a f) s ∙ ap (λ (z : List ℕ). resume_member f.resume ++ z) (asked_parts a f s)))
    (after_resume f.resume _ (after_member a.begin (codes "\"begin\":") (Some f.begin) _ (after_member a.ts_ms (codes "\"ts_ms\":") f.ts_ms _ (after_xid a.xid f.xid _ (after_member a.thread_id (codes "\"thread_id\":") f.thread_id s h.value)))))

origin_with_read : (a : AddedMembers) (g i file name : List ℕ) (p q : ℕ) (f h : TransactionFacts) (s t : List ℕ) → IsJsonValue g → IsJsonValue i → AreBytes file → AreBytes name → p < 2 ^ 64 → q < 2 ^ 64 → AreLoggedFactsFrom a f → AreLoggedFactsFrom a h
    → IsAfterFacts s → IsAfterFacts t → origin_with a g file p f ++ s ≡ origin_with a i name q h ++ t → (g ≡ i) × (file ≡ name) × (p ≡ q) × ShowsFacts a f h × (s ≡ t)
origin_with_read a g i file name p q f h s t jg ji bf bn lp lq l m sa ta e =
    let o = origin_read g i file name p q (transaction_members a f ++ s) (transaction_members a h ++ t) jg ji bf bn lp lq (after_facts a f s sa) (after_facts a h t ta)
    (sym (append_assoc (origin_members g file p) (transaction_members a f) s) ∙ e ∙ append_assoc (origin_members i name q) (transaction_members a h) t) in
    let r = facts_read a f h s t l m sa ta o.3 in
    (o.0, o.1, o.2, r.0, r.1)

-- ---- the line of a row
query_read : (asked : Bool) (o p : Option (List ℕ)) (s t : List ℕ) → AreQueryBytes o → AreQueryBytes p → query_member asked o ++ (codes ",\"data\":" ++ s) ≡ query_member asked p ++ (codes ",\"data\":" ++ t) → (asked ≡ true → o ≡ p) × (s ≡ t)
query_read false o p s t h k e = (λ f. absurd (false≢true f), append_cancel_left (codes ",\"data\":") s t e)
query_read true None None s t h k e = (λ f. refl, append_cancel_left (codes ",\"data\":") s t e)
query_read true None (Some q) s t h k e = absurd (let no : 100 ≡ 113 = ap (λ (l : List ℕ). slice_index l 2) e in omega (arith, no))
query_read true (Some q) None s t h k e = absurd (let no : 113 ≡ 100 = ap (λ (l : List ℕ). slice_index l 2) e in omega (arith, no))
query_read true (Some q) (Some r) s t h k e =
    let key = codes ",\"query\":" in
    let left = codes ",\"data\":" ++ s in
    let right = codes ",\"data\":" ++ t in
    let f = utf8_read q r left right h k (append_cancel_left key (utf8_json q ++ left) (utf8_json r ++ right) (sym (append_assoc key (utf8_json q) left) ∙ e ∙ append_assoc key (utf8_json r) right)) in
    (λ g. ap (λ (x : List ℕ). Some x) f.0, append_cancel_left (codes ",\"data\":") s t f.1)

back_read : (asked : Bool) (key : List ℕ) (o p : Option (List ℕ)) (s t : List ℕ) → AreQueryBytes o → AreQueryBytes p → rows_back key (query_member asked o) ++ s ≡ rows_back key (query_member asked p) ++ t → (asked ≡ true → o ≡ p) × (s ≡ t)
back_read asked [] o p s t h k e =
    query_read asked o p s t h k (sym (append_assoc (query_member asked o) (codes ",\"data\":") s) ∙ e ∙ append_assoc (query_member asked p) (codes ",\"data\":") t)
back_read asked (b ∷ bs) o p s t h k e =
    let parts = λ (x : Option (List ℕ)) (y : List ℕ). append_assoc (44 ∷ b ∷ bs) (query_member asked x ++ codes ",\"data\":") y ∙ ap (λ (z : List ℕ). (44 ∷ b ∷ bs) ++ z) (append_assoc (query_member asked x) (codes ",\"data\":") y) in
    query_read asked o p s t h k (append_cancel_left (44 ∷ b ∷ bs) (query_member asked o ++ (codes ",\"data\":" ++ s)) (query_member asked p ++ (codes ",\"data\":" ++ t)) (sym (parts o s) ∙ e ∙ parts p t))

back_after : (names : List (List ℕ)) (key : List ℕ) (asked : Bool) (o : Option (List ℕ)) (s : List ℕ) → IsAfterFacts (rows_back (key_member names key) (query_member asked o) ++ s)
back_after names (c ∷ columns) asked o s = record { value = refl; no_r = λ e. omega (arith, e); no_t = λ e. omega (arith, e); no_x = λ e. omega (arith, e) }
back_after names [] false o s = record { value = refl; no_r = λ e. omega (arith, e); no_t = λ e. omega (arith, e); no_x = λ e. omega (arith, e) }
back_after names [] true None s = record { value = refl; no_r = λ e. omega (arith, e); no_t = λ e. omega (arith, e); no_x = λ e. omega (arith, e) }
back_after names [] true (Some q) s = record { value = refl; no_r = λ e. omega (arith, e); no_t = λ e. omega (arith, e); no_x = λ e. omega (arith, e) }

key_after : (m : TableMap) (asked : Bool) (o : Option (List ℕ)) (s : List ℕ) → IsAfterFacts (rows_back (key_of m) (query_member asked o) ++ s)
key_after m asked o s = back_after _ _ asked o s

pub line_with_members_read : (x : AddedMembers) (a b : RowImages) (m : TableMap) (h k : Header) (g i file name : List ℕ) (p q : ℕ) (f r : TransactionFacts) (u v : Option (List ℕ)) (s t : List ℕ) → IsLoggedHeader h → IsLoggedHeader k → IsJsonValue g → IsJsonValue i
    → AreBytes file → AreBytes name → p < 2 ^ 64 → q < 2 ^ 64 → AreLoggedFactsFrom x f → AreLoggedFactsFrom x r → AreQueryBytes u → AreQueryBytes v
    → rows_front a m h ++ ((origin_members g file p ++ transaction_members x f) ++ (rows_back (key_of m) (query_member x.query u) ++ s)) ≡ rows_front b m k ++ ((origin_members i name q ++ transaction_members x r) ++ (rows_back (key_of m) (query_member x.query v) ++ t))
    → ShowsOrigin a b h k g i file name p q × ShowsFacts x f r × (x.query ≡ true → u ≡ v) × (s ≡ t)
line_with_members_read x a b m h k g i file name p q f r u v s t lh lk jg ji bf bn lp lq l n bu bv e =
    let left = rows_back (key_of m) (query_member x.query u) ++ s in
    let right = rows_back (key_of m) (query_member x.query v) ++ t in
    let c = front_read a b m h k (origin_with x g file p f ++ left) (origin_with x i name q r ++ right) lh lk refl refl e in
    let o = origin_with_read x g i file name p q f r left right jg ji bf bn lp lq l n (key_after m x.query u s) (key_after m x.query v t) c.3 in
    let d = back_read x.query (key_of m) u v s t bu bv o.4 in
    (record { change = c.0; time = c.1; server = c.2; gtid_is = o.0; file_is = o.1; position_is = o.2 }, o.3, d.0, d.1)

-- ---- the line of a statement
pub statement_with_members_read : (x : AddedMembers) (schema other query text : List ℕ) (h k : Header) (g i file name : List ℕ) (p q : ℕ) (f r : TransactionFacts) (s t : List ℕ) → IsLoggedHeader h → IsLoggedHeader k → IsJsonValue g → IsJsonValue i
    → AreBytes schema → AreBytes other → AreBytes query → AreBytes text → AreBytes file → AreBytes name → p < 2 ^ 64 → q < 2 ^ 64 → AreLoggedFactsFrom x f → AreLoggedFactsFrom x r
    → (codes "{\"type\":\"statement\",\"database\":" ++ (utf8_json schema ++ header_members h)) ++ ((origin_members g file p ++ transaction_members x f) ++ (codes ",\"sql\":" ++ (utf8_json query ++ s)))
    ≡ (codes "{\"type\":\"statement\",\"database\":" ++ (utf8_json other ++ header_members k)) ++ ((origin_members i name q ++ transaction_members x r) ++ (codes ",\"sql\":" ++ (utf8_json text ++ t)))
    → (schema ≡ other) × ShowsHead h k g i file name p q × ShowsFacts x f r × (query ≡ text) × (s ≡ t)
statement_with_members_read x schema other query text h k g i file name p q f r s t lh lk jg ji bs bo bq bt bf bn lp lq l n e =
    let left = codes ",\"sql\":" ++ (utf8_json query ++ s) in
    let right = codes ",\"sql\":" ++ (utf8_json text ++ t) in
    let start = codes "{\"type\":\"statement\",\"database\":" in
    let whole = sym (statement_text schema h (origin_with x g file p f ++ left)) ∙ e ∙ statement_text other k (origin_with x i name q r ++ right) in
    let a = utf8_read schema other (header_members h ++ (origin_with x g file p f ++ left)) (header_members k ++ (origin_with x i name q r ++ right)) bs bo (append_cancel_left start _ _ whole) in
    let b = header_read h k (origin_with x g file p f ++ left) (origin_with x i name q r ++ right) lh lk refl refl a.1 in
    let after = λ (y : List ℕ). let is : IsAfterFacts (codes ",\"sql\":" ++ y) = record { value = refl; no_r = λ z. omega (arith, z); no_t = λ z. omega (arith, z); no_x = λ z. omega (arith, z) } in is in
    let o = origin_with_read x g i file name p q f r left right jg ji bf bn lp lq l n (after (utf8_json query ++ s)) (after (utf8_json text ++ t)) b.2 in
    let d = utf8_read query text s t bq bt (append_cancel_left (codes ",\"sql\":") (utf8_json query ++ s) (utf8_json text ++ t) o.4) in
    (a.0, record { time = b.0; server = b.1; gtid_is = o.0; file_is = o.1; position_is = o.2 }, o.3, d.0, d.1)

-- ---- the line of a transaction
pub transaction_read : (x : AddedMembers) (h k : Header) (g i file name : List ℕ) (p q : ℕ) (f r : TransactionFacts) (s t : List ℕ) → IsLoggedHeader h → IsLoggedHeader k → IsJsonValue g → IsJsonValue i → AreBytes file → AreBytes name → p < 2 ^ 64 → q < 2 ^ 64
    → AreLoggedFactsFrom x f → AreLoggedFactsFrom x r
    → 123 ∷ (drop 1 (header_members h ++ (origin_members g file p ++ transaction_members x f)) ++ (codes ",\"changes\":[" ++ s)) ≡ 123 ∷ (drop 1 (header_members k ++ (origin_members i name q ++ transaction_members x r)) ++ (codes ",\"changes\":[" ++ t))
    → ShowsHead h k g i file name p q × ShowsFacts x f r × (s ≡ t)
transaction_read x h k g i file name p q f r s t lh lk jg ji bf bn lp lq l n e =
    let changes = codes ",\"changes\":[" in
    let whole : (header_members h ++ origin_with x g file p f) ++ (changes ++ s) ≡ (header_members k ++ origin_with x i name q r) ++ (changes ++ t) = ap (λ (y : List ℕ). 44 ∷ others y) e in
    let b = header_read h k (origin_with x g file p f ++ (changes ++ s)) (origin_with x i name q r ++ (changes ++ t)) lh lk refl refl
    (sym (append_assoc (header_members h) (origin_with x g file p f) (changes ++ s)) ∙ whole ∙ append_assoc (header_members k) (origin_with x i name q r) (changes ++ t)) in
    let after = λ (y : List ℕ). let is : IsAfterFacts (codes ",\"changes\":[" ++ y) = record { value = refl; no_r = λ z. omega (arith, z); no_t = λ z. omega (arith, z); no_x = λ z. omega (arith, z) } in is in
    let o = origin_with_read x g i file name p q f r (changes ++ s) (changes ++ t) jg ji bf bn lp lq l n (after s) (after t) b.2 in
    (record { time = b.0; server = b.1; gtid_is = o.0; file_is = o.1; position_is = o.2 }, o.3, append_cancel_left changes s t o.4)
