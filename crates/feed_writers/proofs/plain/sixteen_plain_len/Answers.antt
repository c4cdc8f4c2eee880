use Rattle.std.proofs.Common.{arith}
use Rattle.feed_writers.proofs.PlainLemmas.{stops_from_lanes, count_where_none, count_where_some}
use Rattle.feed_writers.proofs.plain.sixteen_plain_len.Goals as goal

pub returns-then-stops-eq0 : goal.returns-then-stops-eq0
returns-then-stops-eq0 c = count_where_none c.args.bytes.now 16 _ c.requires (stops_from_lanes c.args.bytes.now 16 c.requires (omega arith) c.type_inv.bytes) c.if-stops-eq0.true

pub returns : goal.returns
returns c = count_where_some c.args.bytes.now 16 _ c.requires (omega arith) (stops_from_lanes c.args.bytes.now 16 c.requires (omega arith) c.type_inv.bytes) c.if-stops-eq0.false
