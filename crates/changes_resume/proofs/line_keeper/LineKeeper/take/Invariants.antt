use Rattle.std.proofs.Common.{length}
use Rattle.changes_resume.proofs.KeptLineLemmas.{TakesPiece}
use Rattle.changes_resume.proofs.line_keeper.LineKeeper.take.Given as goal

-- the bytes before the remaining ones were taken
abbrev pub invariant-loop-feed : goal.invariant-loop-feed
invariant-loop-feed l = TakesPiece l.fn.self l.self l.fn.piece l.rest

abbrev pub decreases-loop-feed : goal.decreases-loop-feed
decreases-loop-feed l = length l.rest
