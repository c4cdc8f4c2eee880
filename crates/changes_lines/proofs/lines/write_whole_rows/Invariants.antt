use Rattle.std.proofs.Common.{◌≡◌, ◌≤◌, ◌-◌, ◌++◌, ℕ, List, length, map}
use Rattle.wire_buf.specs.Watched.{inner_of}
use Rattle.feed_transactions.specs.Waiting.{bytes_of}
use Rattle.changes_lines.specs.TextLists.{AreLeft, ended}
use Rattle.changes_lines.proofs.WriteLemmas.{WritesRows}
use Rattle.changes_lines.proofs.lines.write_whole_rows.Given as goal

-- the rows so far were written
abbrev pub invariant-loop-left : goal.invariant-loop-left
invariant-loop-left g l = record {
  some : l.left ≤ l.rows;
  so_far : (json more : List (List ℕ)) → l.rows ≡ length json → AreLeft l.fn.texts (map ended json ++ more) → WritesRows l.head l.ends json more (g.W.Write.contents (inner_of l.fn.writer)) (g.W.Write.contents (inner_of l.writer)) (bytes_of l.fn.waiting) (bytes_of l.waiting) l.texts (l.rows - l.left);
}

abbrev pub decreases-loop-left : goal.decreases-loop-left
decreases-loop-left g l = l.left
