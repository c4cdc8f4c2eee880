use Rattle.wire_buf.specs.Transfers.{Fills}
use Rattle.wire_buf.proofs.reading.fill.Given as goal

-- the buffer is filled so far
abbrev pub invariant-reads : goal.invariant-reads
invariant-reads g l = Fills l.at l.filled (g.R.Read.remaining l.initial.reader) (g.R.Read.remaining l.reader) l.initial.buf l.buf
