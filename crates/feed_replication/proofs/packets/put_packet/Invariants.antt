use Rattle.std.proofs.Common.{◌≡◌, ◌+◌, ◌++◌, true, false, length}
use Rattle.std.specs.Prelude.{if◌then◌else◌}
use Rattle.wire_buf.specs.Watched.{inner_of}
use Rattle.feed_replication.proofs.PacketLemmas.{IsWithin, IsAfter}
use Rattle.feed_replication.proofs.packets.put_packet.Given as goal

abbrev pub invariant-loop-is_whole : goal.invariant-loop-is_whole
invariant-loop-is_whole g l = record {
  within : l.is_whole ≡ true → IsWithin l.fn.number (l.lead ++ l.body) (g.W.Write.contents (inner_of l.fn.writer)) (g.W.Write.contents (inner_of l.writer)) l.number l.rest;
  after : l.is_whole ≡ false → IsAfter l.fn.number (l.lead ++ l.body) (g.W.Write.contents (inner_of l.fn.writer)) (g.W.Write.contents (inner_of l.writer)) l.number;
}

abbrev pub decreases-loop-is_whole : goal.decreases-loop-is_whole
decreases-loop-is_whole g l = length l.rest + (if l.is_whole then 1 else 0)
