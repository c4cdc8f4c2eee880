use Rattle.std.proofs.Common.{length}
use Rattle.wire_buf.specs.Watched.{inner_of}
use Rattle.program_kept.proofs.LineWritingLemmas.{HasWritten}
use Rattle.program_kept.proofs.writing.put_all.Given as goal

-- all but the rest was written
abbrev pub invariant-loop-rest : goal.invariant-loop-rest
invariant-loop-rest g l = HasWritten (g.W.Write.contents (inner_of l.initial.writer)) (g.W.Write.contents (inner_of l.writer)) l.bytes l.rest

abbrev pub decreases-loop-rest : goal.decreases-loop-rest
decreases-loop-rest g l = length l.rest
