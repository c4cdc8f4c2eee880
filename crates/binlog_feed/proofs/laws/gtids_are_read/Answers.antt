use Rattle.feed_checks.proofs.KnownBodyLemmas.{description_bodies}
use Rattle.binlog_feed.proofs.GtidFieldLemmas.{gtid_found, gtid_there}
use Rattle.binlog_feed.proofs.laws.gtids_are_read.Goals as goal

pub returns-clause-gtid : goal.returns-clause-gtid
returns-clause-gtid c = gtid_found

pub returns-clause-taken : goal.returns-clause-taken
returns-clause-taken c = gtid_there

pub returns-clause-description : goal.returns-clause-description
returns-clause-description c = description_bodies
