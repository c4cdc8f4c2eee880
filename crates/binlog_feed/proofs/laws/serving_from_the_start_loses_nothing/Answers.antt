use Rattle.binlog_feed.proofs.ServingLemmas.{serves-the-file}
use Rattle.binlog_feed.proofs.laws.serving_from_the_start_loses_nothing.Goals as goal

pub returns : goal.returns
returns c = serves-the-file
