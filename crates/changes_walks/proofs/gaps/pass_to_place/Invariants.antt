use Rattle.std.proofs.Common.{ℕ, List, length}
use Rattle.wire_buf.specs.Watched.{inner_of, reads_of}
use Rattle.events_frames.specs.Sources.{waiting_of}
use Rattle.events_frames.proofs.LoopLemmas.{to_come}
use Rattle.changes_commands.specs.EventWalks.{AreNext}
use Rattle.changes_walks.proofs.GapLemmas.{PassesSoFar}
use Rattle.changes_walks.proofs.gaps.pass_to_place.Given as goal

-- the events so far belong to what is passed, and the next may
abbrev pub invariant-loop-fault : goal.invariant-loop-fault
invariant-loop-fault g l = (b : List ℕ) → AreNext (waiting_of l.fn.source) (g.R.Read.remaining (inner_of l.fn.reader)) b → PassesSoFar l.has_begun b l.start (waiting_of l.source) (g.R.Read.remaining (inner_of l.reader)) l.offset

-- the reads that may follow, and between them the bytes that wait
abbrev pub decreases-loop-fault : goal.decreases-loop-fault
decreases-loop-fault g l = to_come (reads_of l.reader) (length (waiting_of l.source))
