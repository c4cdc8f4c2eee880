use Rattle.std.proofs.Common.{[], ◌∷◌, ◌++◌}
use Rattle.changes_walks.specs.Selections.{selected}
use Rattle.program_changes.proofs.FollowedLineLemmas.{fails_some, fails_unwritten}
use Rattle.program_changes.proofs.printer.PrinterTransactionSinkJsonRecorder.take.Goals as goal

pub returns-in-Ok-clause-ok : goal.returns-in-Ok-clause-ok
returns-in-Ok-clause-ok g c = λ first m t alike d has. (c.in-Ok.ensures.ok first.sink m t alike d has.0, has.1)

pub returns-in-Err-Memory-clause-err : goal.returns-in-Err-Memory-clause-err
returns-in-Err-Memory-clause-err g c = λ first m t alike d has.
    (fails_some g.W.Write.contents first.sink c.take.new.self c.out_of_memory.new.self (m ++ selected c.args.filter (t ∷ [])) c.out_of_memory.result (rw c.in-Err-Memory.field-0-is at (c.in-Err-Memory.ensures.err first.sink m t alike d has.0)) c.out_of_memory.ensures, has.1)

pub returns-in-Err-Unwritten : goal.returns-in-Err-Unwritten
returns-in-Err-Unwritten g c = record {
  ok = tt;
  err = λ first m t alike d has. (fails_unwritten g.W.Write.contents first.sink c.take.new.self (m ++ selected c.args.filter (t ∷ [])) (rw c.in-Err-Unwritten.field-0-is at (c.in-Err-Unwritten.ensures.err first.sink m t alike d has.0)), has.1);
}

pub returns-in-Err-Closed-clause-err : goal.returns-in-Err-Closed-clause-err
returns-in-Err-Closed-clause-err g c = λ first m t alike d has. absurd (rw c.in-Err-Closed.field-0-is at (c.in-Err-Closed.ensures.err first.sink m t alike d has.0))
