use Rattle.binlog_feed.proofs.ChangeFollowLemmas.{stream_shows}
use Rattle.binlog_feed.proofs.follower_laws.transactions_of_a_stream_are_the_committed_ones.Goals as goal

pub returns : goal.returns
returns c = stream_shows
