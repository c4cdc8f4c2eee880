use Rattle.std.proofs.Common.{ℕ, List}
use Rattle.wire_buf.specs.Watched.{inner_of}
use Rattle.feed_transactions.specs.Waiting.{bytes_of}
use Rattle.changes_statements.specs.NewestTexts.{HasTexts}
use Rattle.changes_statements.proofs.NewestLemmas.{WroteSome}
use Rattle.changes_statements.proofs.newest_first.NewestFirst.write_all.Given as goal

-- so many texts were written
abbrev pub invariant-loop : goal.invariant-loop
invariant-loop g l =
    (texts : List (List ℕ)) → HasTexts l.fn.self texts → WroteSome l.counter texts l.self.bytes.items l.self.starts.items (g.W.Write.contents (inner_of l.fn.writer)) (g.W.Write.contents (inner_of l.writer)) (bytes_of l.fn.waiting) (bytes_of l.waiting)
