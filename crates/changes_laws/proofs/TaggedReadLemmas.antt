-- The GTID that the body of a GTID_TAGGED_LOG_EVENT has, and its JSON, which shows it.
use Rattle.std.proofs.Common.{◌≡◌, ℕ, zero, suc, ◌+◌, ◌<◌, ◌^◌, Bool, true, false, ◌&&◌, T, List, [], ◌∷◌, ◌++◌, length, Option, Some, None, refl, sym, ap, ap₂, ◌∙◌, subst, length-append, arith}
use Rattle.std.specs.Prelude.{All, IsTrue, cond}
use Rattle.std.specs.Fmt.{decimal}
use Rattle.std.specs.List.{list_all}
use Rattle.std.proofs.lemmas.Bool.{false≢true}
use Rattle.wire_buf.specs.Encoding.{AreBytes, IsSequence}
use Rattle.feed_writers.proofs.PlainLemmas.{upto_sound}
use Rattle.feed_checks.specs.Kinds.{Gtid, Anonymous, Numbered, Tagged}
use Rattle.feed_transactions.specs.Changes.{Committed, EventChange}
use Rattle.changes_tables.specs.declared.columns.TableOptions.{TableOptions}
use Rattle.changes_lines.specs.ChangeLines.{AreLines}
use Rattle.changes_origins.specs.declared.added_members.AddedMembers.{AddedMembers}
use Rattle.changes_origins.specs.GtidJson.{IsGtidJson, IsTaggedJson, tagged_json}
use Rattle.changes_origins.specs.MariadbGtids.{mariadb_gtid, mariadb_json, MariadbGtid}
use Rattle.changes_origins.specs.TaggedGtids as tagged
use Rattle.changes_origins.specs.TaggedGtids.{TaggedGtid, IsByte, IsTaggedGtid}
use Rattle.changes_laws.specs.JsonLines.{AreLoggedFacts, AreLoggedRows, AreObjectLines, IsLoggedChange, IsLoggedGtid, IsLoggedHeader, IsTagRead, is_of_tag}
use Rattle.changes_laws.proofs.TimestampReadLemmas.{decimals_same}
use Rattle.changes_laws.proofs.DateReadLemmas.{decimal_digits, digits_end}
use Rattle.changes_laws.proofs.GtidReadLemmas.{uuids_read}
use Rattle.changes_laws.proofs.SoundCellLemmas.{EachHolds}
use Rattle.changes_laws.proofs.LineLawLemmas.{all_of, lines_law, numbered_json, tagged_is_json, mariadb_is_json}
use Rattle.changes_laws.proofs.WrittenJson.{IsJson, null_json}

abbrev others : List ℕ → List ℕ
others [] = []
others (x ∷ xs) = xs

abbrev first : List ℕ → ℕ
first [] = 0
first (x ∷ xs) = x

-- ---- the fields
bytes_more : (p : List ℕ) (v : ℕ) → AreBytes p → v < 256 → AreBytes (p ++ v ∷ [])
bytes_more [] v h lt zero = lt
bytes_more [] v h lt (suc k) = omega arith
bytes_more (x ∷ p) v h lt zero = h 0
bytes_more (x ∷ p) v h lt (suc k) = bytes_more p v (λ i. h (suc i)) lt k

pub sequence_bytes : (n : ℕ) (vs bytes rest : List ℕ) → IsSequence n IsByte vs bytes rest → AreBytes vs × (length vs ≡ n)
sequence_bytes zero vs bytes rest h = (subst AreBytes (sym h.0) (λ k. omega arith), ap length h.0)
sequence_bytes (suc n) vs bytes rest h =
    let before = sequence_bytes n h.prefix h.encoding_is.prefix (h.encoding_is.suffix ++ rest) h.encoding_is.first_is in
    let long = length-append h.prefix (h.last ∷ []) in
    let count = before.1 in
    (subst AreBytes (sym h.items) (bytes_more h.prefix h.last before.0 h.encoding_is.second_is.0), ap length h.items ∙ omega (arith, long, count))

true_of : (a b : Bool) → T (cond a b true) → IsTrue a → IsTrue b
true_of true true h e = refl
true_of true false h e = absurd h
true_of false b h e = absurd (false≢true e)

tag_below : (b : ℕ) → IsTrue (tagged.is_of_tag b) → b < 128
tag_below b h = grind arith

tag_known : (b : ℕ) → IsTrue (tagged.is_of_tag b) → IsTrue (is_of_tag b)
tag_known b h = true_of (tagged.is_of_tag b) (is_of_tag b) (upto_sound (λ c. cond (tagged.is_of_tag c) (is_of_tag c) true) 128 tt b (tag_below b h)) h

tags_known : (tag : List ℕ) → IsTrue (list_all tagged.is_of_tag tag) → EachHolds (λ b. IsTrue (is_of_tag b)) tag
tags_known [] h = tt
tags_known (b ∷ bs) h = go (tagged.is_of_tag b) refl h (tags_known bs)
  where
    go : (t : Bool) → tagged.is_of_tag b ≡ t → IsTrue (t && list_all tagged.is_of_tag bs) → (IsTrue (list_all tagged.is_of_tag bs) → EachHolds (λ c. IsTrue (is_of_tag c)) bs) → EachHolds (λ c. IsTrue (is_of_tag c)) (b ∷ bs)
    go true e k more = (tag_known b e, more k)
    go false e k more = absurd (false≢true k)

-- what holds of a GTID that was read
pub record IsRead (g : TaggedGtid) : Type 0 where
  pub bytes : AreBytes g.uuid
  pub sixteen : length g.uuid ≡ 16
  pub tag : EachHolds (λ b. IsTrue (is_of_tag b)) g.tag

pub gtid_read : (body : List ℕ) (g : TaggedGtid) → IsTaggedGtid body (Some g) → IsRead g
gtid_read body g h =
    let fields = h.1.read.begins.is.second_is.second_is.second_is in
    let uuid = sequence_bytes 16 h.1.fields.1.1.1.0 fields.first_is.suffix (fields.suffix ++ h.0) fields.first_is.second_is in
    subst IsRead (sym h.1.gtid) (record { bytes = uuid.0; sixteen = uuid.1; tag = tags_known h.1.fields.1.1.1.1.1 fields.second_is.second_is.second_is.1 })

pub tag_is_read : (body : List ℕ) (g : Option TaggedGtid) → IsTaggedGtid body g → IsTagRead g
tag_is_read body None h = tt
tag_is_read body (Some g) h = let r = gtid_read body g h in (r.bytes, all_of (λ b. IsTrue (is_of_tag b)) g.tag r.tag)

-- ---- the string
not_colon : (b : ℕ) → IsTrue (is_of_tag b) → b ≡ 58 → ⊥
not_colon b h e = false≢true (subst (λ (c : ℕ). IsTrue (is_of_tag c)) e h)

tags_end : (a b s t : List ℕ) → EachHolds (λ c. IsTrue (is_of_tag c)) a → EachHolds (λ c. IsTrue (is_of_tag c)) b → a ++ 58 ∷ s ≡ b ++ 58 ∷ t → (a ≡ b) × (s ≡ t)
tags_end [] [] s t h k e = (refl, ap others e)
tags_end [] (y ∷ b) s t h k e = absurd (not_colon y k.0 (sym (ap first e)))
tags_end (x ∷ a) [] s t h k e = absurd (not_colon x h.0 (ap first e))
tags_end (x ∷ a) (y ∷ b) s t h k e = let more = tags_end a b s t h.1 k.1 (ap others e) in (ap₂ (λ (c : ℕ) (cs : List ℕ). c ∷ cs) (ap first e) more.0, more.1)

same_gtid : (g h : TaggedGtid) → g.uuid ≡ h.uuid → g.tag ≡ h.tag → g.number ≡ h.number → g ≡ h
same_gtid g h e f i =
    ap (λ (u : List ℕ). let made : TaggedGtid = record { uuid = u; tag = g.tag; number = g.number } in made) e
    ∙ ap (λ (t : List ℕ). let made : TaggedGtid = record { uuid = h.uuid; tag = t; number = g.number } in made) f
    ∙ ap (λ (n : ℕ). let made : TaggedGtid = record { uuid = h.uuid; tag = h.tag; number = n } in made) i

pub tagged_gtids_read : (a b : List ℕ) (g h : TaggedGtid) → IsTaggedGtid a (Some g) → IsTaggedGtid b (Some h) → g.number < 2 ^ 64 → tagged_json a (Some g) ≡ tagged_json b (Some h) → g ≡ h
tagged_gtids_read a b g h p q lt e =
    let r = gtid_read a g p in
    let s = gtid_read b h q in
    let u = uuids_read g.uuid h.uuid (58 ∷ (g.tag ++ 58 ∷ (decimal g.number ++ 34 ∷ []))) (58 ∷ (h.tag ++ 58 ∷ (decimal h.number ++ 34 ∷ []))) r.bytes s.bytes r.sixteen s.sixteen (ap others e) in
    let t = tags_end g.tag h.tag (decimal g.number ++ 34 ∷ []) (decimal h.number ++ 34 ∷ []) r.tag s.tag (ap others u.1) in
    let n = digits_end (decimal g.number) (decimal h.number) (34 ∷ []) (34 ∷ []) (decimal_digits g.number) (decimal_digits h.number) refl refl t.1 in
    same_gtid g h u.0 t.0 (decimals_same g.number h.number lt n.0)

-- ---- MariaDB's
same_mariadb : (g h : MariadbGtid) → g.domain ≡ h.domain → g.server ≡ h.server → g.sequence ≡ h.sequence → g ≡ h
same_mariadb g h d s n =
    ap (λ (k : ℕ). let made : MariadbGtid = record { domain = k; server = g.server; sequence = g.sequence } in made) d
    ∙ ap (λ (k : ℕ). let made : MariadbGtid = record { domain = h.domain; server = k; sequence = g.sequence } in made) s
    ∙ ap (λ (k : ℕ). let made : MariadbGtid = record { domain = h.domain; server = h.server; sequence = k } in made) n

pub mariadb_gtids_read : (g h : MariadbGtid) → g.domain < 2 ^ 64 → g.server < 2 ^ 64 → g.sequence < 2 ^ 64 → mariadb_json g ≡ mariadb_json h → g ≡ h
mariadb_gtids_read g h domain server sequence e =
    let d = digits_end (decimal g.domain) (decimal h.domain) (45 ∷ (decimal g.server ++ 45 ∷ (decimal g.sequence ++ 34 ∷ []))) (45 ∷ (decimal h.server ++ 45 ∷ (decimal h.sequence ++ 34 ∷ []))) (decimal_digits g.domain) (decimal_digits h.domain) refl refl (ap others e) in
    let s = digits_end (decimal g.server) (decimal h.server) (45 ∷ (decimal g.sequence ++ 34 ∷ [])) (45 ∷ (decimal h.sequence ++ 34 ∷ [])) (decimal_digits g.server) (decimal_digits h.server) refl refl (ap others d.1) in
    let n = digits_end (decimal g.sequence) (decimal h.sequence) (34 ∷ []) (34 ∷ []) (decimal_digits g.sequence) (decimal_digits h.sequence) refl refl (ap others s.1) in
    same_mariadb g h (decimals_same g.domain h.domain domain d.0) (decimals_same g.server h.server server s.0) (decimals_same g.sequence h.sequence sequence n.0)

-- ---- the lines of any transaction
tagged_either : (P : Type 0) (body : List ℕ) (m : Option MariadbGtid) (x : List ℕ) → IsTaggedJson body m x → IsJson P x
tagged_either P body (Some g) x e = subst (IsJson P) (sym e) (mariadb_is_json P g)
tagged_either P body None x e = subst (IsJson P) (sym e.2) (tagged_is_json P body e.0 (tag_is_read body e.0 e.1))

logged_json : (P : Type 0) (g : Option Gtid) (x : List ℕ) → IsLoggedGtid g → IsGtidJson g x → IsJson P x
logged_json P None x h e = subst (IsJson P) (sym e) (null_json P)
logged_json P (Some Anonymous) x h e = subst (IsJson P) (sym e) (null_json P)
logged_json P (Some (Numbered uuid number)) x h e = numbered_json P uuid number x h e
logged_json P (Some (Tagged body)) x h e = tagged_either P body (mariadb_gtid body) x e

pub logged_law : (options : TableOptions) (added : AddedMembers) (by_transaction : Bool) (file : List ℕ) (t : Committed) (changes : List EventChange) (text : List ℕ) (lines : AreLines options added by_transaction file t changes text) → IsLoggedGtid t.gtid
    → IsLoggedHeader t.commit → All IsLoggedChange changes → AreLoggedRows added t.changes → AreLoggedFacts added ((lines.2).2).0 → ∥ AreObjectLines text ∥₁
logged_law options added by_transaction file t changes text e u l c n f =
    let g = e.2 in
    subst (λ (x : List ℕ). ∥ AreObjectLines x ∥₁) (sym (g.2).1) (lines_law options added by_transaction file g.0 t (g.2).0 changes e.0 (logged_json (Unit {0}) t.gtid g.0 u g.1) l c n f e.1)
