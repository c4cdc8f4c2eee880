-- The text of a GTID, of its JSON.
use Rattle.std.proofs.Common.{◌≡◌, ◌<◌, ◌^◌, ℕ, List, [], ◌∷◌, ◌++◌, length, Option, Some, None, sym, ap, subst, ◌∙◌, append_assoc}
use Rattle.std.specs.Prelude.{codes}
use Rattle.std.specs.Fmt.{decimal}
use Rattle.events_frames.specs.Headers.{Header}
use Rattle.feed_checks.specs.Kinds.{Gtid, Anonymous, Numbered, Tagged}
use Rattle.feed_text.specs.Uuids.{uuid_text}
use Rattle.feed_transactions.specs.Changes.{Committed}
use Rattle.changes_writers.specs.Base64Texts.{base64_object}
use Rattle.changes_origins.specs.GtidJson.{AppendsGtid, IsGtidJson, IsTaggedJson, tagged_json}
use Rattle.changes_origins.specs.MariadbGtids.{MariadbGtid, mariadb_gtid, mariadb_json}
use Rattle.changes_origins.specs.TaggedGtids.{TaggedGtid}
use Rattle.library_log.specs.RecordLayouts.{text_bytes, IsTextOf, of_null, of_string, of_object}
use Rattle.library_log.specs.RecordParts.{head_bytes, FitsHead, AppendsHead}
use Rattle.library_log.proofs.LayoutLemmas.{appended_both}

-- what is made of JSON: no bytes for null, of a string its content, and an object as it is
pub record Unquotes (json text : List ℕ) : Type 0 where
  pub null : json ≡ codes "null" → text ≡ []
  pub string : (content : List ℕ) → json ≡ 34 ∷ (content ++ 34 ∷ []) → text ≡ content
  pub object : (rest : List ℕ) → json ≡ 123 ∷ rest → text ≡ json

of_null_is : (json text : List ℕ) → json ≡ codes "null" → Unquotes json text → IsTextOf json text
of_null_is json text is u = rw (is, u.null is) of_null

of_string_is : (json text content : List ℕ) → json ≡ 34 ∷ (content ++ 34 ∷ []) → Unquotes json text → IsTextOf json text
of_string_is json text content is u = rw (is, u.string content is) (of_string content)

of_object_is : (json text rest : List ℕ) → json ≡ 123 ∷ rest → Unquotes json text → IsTextOf json text
of_object_is json text rest is u = rw (u.object rest is, is) (of_object rest)

-- two parts, each with what ends it, and a last one
two_parts_of : (mark : ℕ) (a b c : List ℕ) → a ++ mark ∷ (b ++ mark ∷ (c ++ 34 ∷ [])) ≡ (a ++ mark ∷ (b ++ mark ∷ c)) ++ 34 ∷ []
two_parts_of mark a b c =
    ap (λ (l : List ℕ). a ++ mark ∷ l) (sym (append_assoc b (mark ∷ c) (34 ∷ []))) ∙ sym (append_assoc a (mark ∷ (b ++ mark ∷ c)) (34 ∷ []))

object_json : (body json text : List ℕ) → json ≡ base64_object body → Unquotes json text → IsTextOf json text
unfolding base64_object
object_json body json text is u = of_object_is json text _ is u

pub gtid_text : (g : Option Gtid) (json text : List ℕ) → IsGtidJson g json → Unquotes json text → IsTextOf json text
gtid_text None json text is u = of_null_is json text is u
gtid_text (Some Anonymous) json text is u = of_null_is json text is u
gtid_text (Some (Numbered uuid number)) json text is u =
    of_string_is json text (uuid_text uuid ++ 58 ∷ decimal number) (is ∙ ap (λ (l : List ℕ). 34 ∷ l) (sym (append_assoc (uuid_text uuid) (58 ∷ decimal number) (34 ∷ [])))) u
gtid_text (Some (Tagged body)) json text is u = tagged (mariadb_gtid body) is
  where
    quoted : (content : List ℕ) → json ≡ 34 ∷ (content ++ 34 ∷ []) → IsTextOf json text
    quoted content h = of_string_is json text content h u

    own : (g : Option TaggedGtid) → json ≡ tagged_json body g → IsTextOf json text
    own None h = object_json body json text h u
    own (Some g) h = quoted (uuid_text g.uuid ++ 58 ∷ (g.tag ++ 58 ∷ decimal g.number)) (h ∙ ap (λ (l : List ℕ). 34 ∷ l) (two_parts_of 58 (uuid_text g.uuid) g.tag (decimal g.number)))

    tagged : (m : Option MariadbGtid) → IsTaggedJson body m json → IsTextOf json text
    tagged (Some m) h = quoted (decimal m.domain ++ 45 ∷ (decimal m.server ++ 45 ∷ decimal m.sequence)) (h ∙ ap (λ (l : List ℕ). 34 ∷ l) (two_parts_of 45 (decimal m.domain) (decimal m.server) (decimal m.sequence)))
    tagged None h = own h.0 h.2

-- ---- the head of a record

pub head_appended : (begin : ℕ) (t : Committed) (g : Option Gtid) (h : Header) (old mid new before after slice text : List ℕ) → h ≡ t.commit → g ≡ t.gtid → mid ≡ old ++ head_bytes 0 0 0 begin h → FitsHead begin h → before ≡ [] → AppendsGtid g before after → slice ≡ after → Unquotes slice text
    → new ≡ mid ++ text_bytes text → length text < 2 ^ 64 → AppendsHead begin t old new
head_appended begin t g h old mid new before after slice text commit gtid head fits none a is u wrote short =
    let json : slice ≡ a.gtid = is ∙ a.appended ∙ ap (λ (l : List ℕ). l ++ a.gtid) none in
    let is_json : IsGtidJson t.gtid slice = subst (λ (x : Option Gtid). IsGtidJson x slice) gtid (subst (IsGtidJson g) (sym json) a.is) in
    record {
      gtid = text;
      json = slice;
      is_json = is_json;
      is_text = gtid_text t.gtid slice text is_json u;
      appended = appended_both old mid new (head_bytes 0 0 0 begin t.commit) (text_bytes text) (head ∙ ap (λ (x : Header). old ++ head_bytes 0 0 0 begin x) commit) wrote;
      small = subst (FitsHead begin) commit fits;
      short = short;
    }
