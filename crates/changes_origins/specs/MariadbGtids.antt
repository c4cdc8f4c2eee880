-- The GTIDs of MariaDB (MariaDB knowledge base: Global Transaction ID): a domain, a server and a sequence number. The event that stands for a GTID_EVENT of MariaDB has them in its body.
use Rattle.std.specs.Prelude.{◌==◌, ◌&&◌, ℕ, Bool, List, [], ◌∷◌, ◌++◌, length, drop, nat_le, slice_index, Option, Some, None, if◌then◌else◌}
use Rattle.std.specs.Fmt.{decimal}
use Rattle.byteorder.specs.Endian.{little_number}

-- a GTID
pub record MariadbGtid : Type 0 where
  pub domain : ℕ
  pub server : ℕ
  pub sequence : ℕ

-- whether a body has one: a byte 0, the domain (4), the server (4) and the sequence number (8). The body of a GTID_TAGGED_LOG_EVENT of MySQL begins with the version of its format, and no version begins with a byte 0
abbrev pub has_mariadb_gtid : List ℕ → Bool
has_mariadb_gtid body = nat_le 17 (length body) && slice_index body 0 == 0

-- the GTID that a body has
abbrev pub mariadb_gtid : List ℕ → Option MariadbGtid
mariadb_gtid body = if has_mariadb_gtid body then Some (record { domain = little_number 4 (drop 1 body); server = little_number 4 (drop 5 body); sequence = little_number 8 (drop 9 body) }) else None

-- as a string: domain-server-sequence
abbrev pub mariadb_json : MariadbGtid → List ℕ
mariadb_json g = 34 ∷ (decimal g.domain ++ 45 ∷ (decimal g.server ++ 45 ∷ (decimal g.sequence ++ 34 ∷ [])))
