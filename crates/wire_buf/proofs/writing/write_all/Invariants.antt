use Rattle.wire_buf.proofs.TransferLemmas.{HasWritten}
use Rattle.wire_buf.proofs.writing.write_all.Given as goal

-- the bytes that are no longer in the rest were written
abbrev pub invariant-writes : goal.invariant-writes
invariant-writes g l = HasWritten (g.W.Write.contents l.initial.writer) (g.W.Write.contents l.writer) l.initial.rest l.rest
