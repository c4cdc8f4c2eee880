use Rattle.feed_replication.proofs.RequestLemmas.{packet_is, packet_from}
use Rattle.binlog_feed.proofs.serving_laws.requests_are_packets.Goals as goal

pub returns : goal.returns
returns c = λ bytes p. (packet_from bytes p, packet_is bytes p)
