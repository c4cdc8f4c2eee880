use Rattle.std.proofs.Common.{refl}
use Rattle.wire_packets.specs.Framing.{slice_of, chunks}
use Rattle.feed_replication.specs.Requests.{dump_request}
use Rattle.binlog_feed.proofs.worked_streams.worked_requests.Goals as goal

pub returns : goal.returns
unfolding slice_of chunks dump_request
returns c = refl
