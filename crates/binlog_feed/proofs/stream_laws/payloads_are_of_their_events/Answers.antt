use Rattle.feed_replication.proofs.StreamLemmas.{payload-holds, event-back}
use Rattle.binlog_feed.proofs.stream_laws.payloads_are_of_their_events.Goals as goal

pub returns : goal.returns
returns c = record { holds = payload-holds; event = event-back }
