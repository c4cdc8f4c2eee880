-- The GTIDs of MariaDB that a `MariadbGtid` has.
use Rattle.changes_origins.specs.MariadbGtids as gtids
use Rattle.changes_origins.specs.declared.mariadb_gtid.MariadbGtid.{MariadbGtid}

abbrev pub mariadb_view : MariadbGtid → gtids.MariadbGtid
mariadb_view g = record { domain = g.domain; server = g.server; sequence = g.sequence }
