use Rattle.std.proofs.Common.{rules}
use Rattle.wire_buf.proofs.TransferLemmas.{fills_none, fills_more, fills_kept}
use Rattle.wire_buf.proofs.reading.fill.Goals as goal
use Rattle.wire_buf.proofs.reading.fill.Goals.{in-Ok, in-Err+else-ne}

pub reads-init : goal.reads-init
reads-init g c = fills_none _ _ _ c.requires

pub reads-preserved : goal.reads-preserved
reads-preserved g c =
    elim c.match-read.branch [
      | in-Ok w ↦ rw w.filled-is (fills_more _ _ _ w.in-Ok.n _ c.reads.buf c.read.new.buf _ _ _ c.reads.invariant w.in-Ok.ensures.bound.0 (search rules) w.in-Ok.ensures.bytes.0)
      | in-Err+else-ne w ↦ rw w.filled-is (fills_kept _ _ _ _ c.reads.buf c.read.new.buf _ _ _ c.reads.invariant (search rules) w.in-Err.ensures.bytes)
    ]
