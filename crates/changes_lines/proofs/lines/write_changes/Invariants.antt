use Rattle.std.proofs.Common.{List, length}
use Rattle.wire_buf.specs.Watched.{inner_of}
use Rattle.feed_transactions.specs.Waiting.{bytes_of}
use Rattle.changes_lines.specs.ChangeLines.{ChangeJson}
use Rattle.changes_lines.specs.RecordedLines.{HasChanges}
use Rattle.changes_lines.proofs.WriteLemmas.{WritesChanges}
use Rattle.changes_lines.proofs.lines.write_changes.Given as goal

-- the changes so far were written
abbrev pub invariant-loop-rows : goal.invariant-loop-rows
invariant-loop-rows g l =
    (xs : List ChangeJson) → HasChanges l.transaction xs → WritesChanges l.origin l.ends xs (g.W.Write.contents (inner_of l.fn.writer)) (g.W.Write.contents (inner_of l.writer)) (bytes_of l.fn.waiting) (bytes_of l.waiting) l.texts l.left

abbrev pub decreases-loop-rows : goal.decreases-loop-rows
decreases-loop-rows g l = length l.left
