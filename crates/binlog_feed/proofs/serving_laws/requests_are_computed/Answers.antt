use Rattle.feed_replication.proofs.FileLemmas.{requested_is, is_requested}
use Rattle.binlog_feed.proofs.serving_laws.requests_are_computed.Goals as goal

pub returns : goal.returns
returns c = λ request name asked. (requested_is request name asked, is_requested request name asked)
