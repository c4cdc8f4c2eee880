use Rattle.std.proofs.Common.{◌-◌, ◌^◌}
use Rattle.wire_buf.specs.Watched.{inner_of, reads_of}
use Rattle.changes_resume.proofs.ReadingLemmas.{TakesText}
use Rattle.changes_resume.proofs.reading.keep_all.Given as goal

-- the keeper took the bytes that were read so far
abbrev pub invariant-loop-keeper : goal.invariant-loop-keeper
invariant-loop-keeper g l = TakesText (g.R.Read.remaining (inner_of l.fn.reader)) (g.R.Read.remaining (inner_of l.reader)) l.keeper

abbrev pub decreases-loop-keeper : goal.decreases-loop-keeper
decreases-loop-keeper g l = 2 ^ 63 - 1 - reads_of l.reader
