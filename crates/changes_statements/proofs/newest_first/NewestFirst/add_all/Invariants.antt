use Rattle.std.proofs.Common.{ℕ, List, []}
use Rattle.changes_statements.specs.NewestTexts.{HasTexts}
use Rattle.changes_statements.specs.StatementTexts.{HasOpen}
use Rattle.changes_statements.proofs.AddedLemmas.{AddedSome}
use Rattle.changes_statements.proofs.newest_first.NewestFirst.add_all.Given as goal

-- so many texts were added
abbrev pub invariant-loop : goal.invariant-loop
invariant-loop l = (older texts : List (List ℕ)) → HasTexts l.fn.self older → HasOpen l.list texts [] → AddedSome l.counter texts older l.left l.self
