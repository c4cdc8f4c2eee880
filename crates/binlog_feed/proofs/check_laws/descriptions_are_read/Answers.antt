use Rattle.feed_checks.proofs.DescriptionLemmas.{description_one}
use Rattle.binlog_feed.proofs.check_laws.descriptions_are_read.Goals as goal

pub returns : goal.returns
returns c = description_one
