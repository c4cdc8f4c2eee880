use Rattle.wire_buf.proofs.TransferLemmas.{GathersSome}
use Rattle.wire_buf.proofs.reading.read_more.Given as goal

-- the bytes that were taken so far: n less those left to take
abbrev pub invariant-loop-left : goal.invariant-loop-left
invariant-loop-left g l =
    GathersSome (g.R.Read.remaining l.initial.reader) (g.R.Read.remaining l.reader) l.n l.left l.initial.out.items l.out.items

abbrev pub decreases-loop-left : goal.decreases-loop-left
decreases-loop-left g l = l.left
