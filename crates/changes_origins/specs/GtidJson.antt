-- GTIDs as JSON (MySQL Reference Manual, "GTID Format and Storage").
use Rattle.std.specs.Prelude.{◌≡◌, ℕ, List, [], ◌∷◌, ◌++◌, codes, Option, Some, None}
use Rattle.std.specs.Fmt.{decimal}
use Rattle.feed_checks.specs.Kinds.{Gtid, Anonymous, Numbered, Tagged}
use Rattle.feed_text.specs.Uuids.{uuid_text}
use Rattle.changes_writers.specs.Base64Texts.{base64_object}
use Rattle.changes_origins.specs.MariadbGtids.{mariadb_gtid, mariadb_json, MariadbGtid}
use Rattle.changes_origins.specs.TaggedGtids.{TaggedGtid, IsTaggedGtid}

-- a tagged GTID as a string; the Base64 of its event's body if that can't be read
abbrev pub tagged_json : List ℕ → Option TaggedGtid → List ℕ
tagged_json body None = base64_object body
tagged_json body (Some g) = 34 ∷ (uuid_text g.uuid ++ 58 ∷ (g.tag ++ 58 ∷ (decimal g.number ++ 34 ∷ [])))

-- the JSON of a GTID in the body of an event: of one of MariaDB, or of a tagged one
abbrev pub IsTaggedJson : List ℕ → Option MariadbGtid → List ℕ → Type 0
IsTaggedJson body (Some g) x = x ≡ mariadb_json g
IsTaggedJson body None x = (g : Option TaggedGtid) × IsTaggedGtid body g × (x ≡ tagged_json body g)

-- a GTID as a string; null if it is anonymous or there is none
abbrev pub IsGtidJson : Option Gtid → List ℕ → Type 0
IsGtidJson None x = x ≡ codes "null"
IsGtidJson (Some Anonymous) x = x ≡ codes "null"
IsGtidJson (Some (Numbered uuid number)) x = x ≡ 34 ∷ (uuid_text uuid ++ 58 ∷ (decimal number ++ 34 ∷ []))
IsGtidJson (Some (Tagged body)) x = IsTaggedJson body (mariadb_gtid body) x

-- the JSON of a GTID was appended
pub record AppendsGtid (g : Option Gtid) (old new : List ℕ) : Type 0 where
  pub gtid : List ℕ
  pub is : IsGtidJson g gtid
  pub appended : new ≡ old ++ gtid
