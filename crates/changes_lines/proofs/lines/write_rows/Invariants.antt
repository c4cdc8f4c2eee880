use Rattle.std.proofs.Common.{◌≡◌, ◌++◌, ℕ, List, length, map}
use Rattle.wire_buf.specs.Watched.{inner_of}
use Rattle.feed_transactions.specs.Waiting.{bytes_of}
use Rattle.changes_lines.specs.TextLists.{AreLeft, ended}
use Rattle.changes_lines.proofs.WriteLemmas.{WritesRows}
use Rattle.changes_lines.proofs.lines.write_rows.Given as goal

-- the rows so far were written
abbrev pub invariant-loop : goal.invariant-loop
invariant-loop g l =
    (json more : List (List ℕ)) → l.rows ≡ length json → AreLeft l.fn.texts (map ended json ++ more) → WritesRows l.head l.ends json more (g.W.Write.contents (inner_of l.fn.writer)) (g.W.Write.contents (inner_of l.writer)) (bytes_of l.fn.waiting) (bytes_of l.waiting) l.texts l.counter
