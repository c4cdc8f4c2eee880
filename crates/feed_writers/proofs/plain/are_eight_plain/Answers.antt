use Rattle.std.proofs.Common.{arith}
use Rattle.feed_writers.proofs.PlainLemmas.{plain_from_lanes}
use Rattle.feed_writers.proofs.plain.are_eight_plain.Goals as goal

pub returns : goal.returns
returns c = plain_from_lanes c.args.bytes.now 8 c.requires (omega arith) c.type_inv.bytes
