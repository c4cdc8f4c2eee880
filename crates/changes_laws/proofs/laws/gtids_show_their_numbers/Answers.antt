use Rattle.changes_laws.proofs.GtidReadLemmas.{gtids_read}
use Rattle.changes_laws.proofs.TaggedReadLemmas.{mariadb_gtids_read, tagged_gtids_read}
use Rattle.changes_laws.proofs.laws.gtids_show_their_numbers.Goals as goal

pub returns-clause-tagged : goal.returns-clause-tagged
returns-clause-tagged c = tagged_gtids_read

pub returns-clause-mariadb : goal.returns-clause-mariadb
returns-clause-mariadb c = mariadb_gtids_read

pub returns-clause-numbered : goal.returns-clause-numbered
returns-clause-numbered c = gtids_read
