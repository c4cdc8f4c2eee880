-- The JSON of a GTID in the body of an event was appended.
use Rattle.std.proofs.Common.{◌≡◌, List, ℕ, ◌++◌, Option, None, Some, refl, subst}
use Rattle.feed_checks.specs.Kinds.{Tagged}
use Rattle.changes_origins.specs.GtidJson.{AppendsGtid, IsTaggedJson, tagged_json}
use Rattle.changes_origins.specs.MariadbGtids.{mariadb_gtid, MariadbGtid}
use Rattle.changes_origins.specs.TaggedGtids.{TaggedGtid, IsTaggedGtid}

pub tagged_appended : (body old new : List ℕ) (g : Option TaggedGtid) → None ≡ mariadb_gtid body → IsTaggedGtid body g → new ≡ old ++ tagged_json body g → AppendsGtid (Some (Tagged body)) old new
tagged_appended body old new g none is e = record { gtid = tagged_json body g; is = subst (λ (m : Option MariadbGtid). IsTaggedJson body m (tagged_json body g)) none (g, is, refl); appended = e }
