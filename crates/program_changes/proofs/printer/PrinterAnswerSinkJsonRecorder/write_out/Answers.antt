use Rattle.std.proofs.Common.{ℕ, List}
use Rattle.std.proofs.lemmas.Result.{on_ok_weaker, IfErr-weaker}
use Rattle.changes_lines.proofs.BeginLemmas.{on_any}
use Rattle.program_changes.proofs.FollowedLineLemmas.{acks_unwritten, all_written, fails_cut, fails_for_memory, wants_kept}
use Rattle.program_changes.proofs.printer.PrinterAnswerSinkJsonRecorder.write_out.Goals as goal

pub returns-in_default-clause-err : goal.returns-in_default-clause-err
returns-in_default-clause-err g c = λ first l before has.
    fails_for_memory g.W.Write.contents g.A.Write.contents first.sink c.args.self.now.sink c.out_of_memory.new.self first.acks c.args.self.now.acks l before has.0 has.1 c.name.result.now c.out_of_memory.result c.out_of_memory.ensures

pub returns-in-Ok-write_last-clause-ok : goal.returns-in-Ok-write_last-clause-ok
returns-in-Ok-write_last-clause-ok g c =
    on_ok_weaker c.write_acks.result (λ f first l before has. f first.sink first.acks l before has.0 has.1)
    (all_written g.W.Write.contents g.A.Write.contents c.args.self.now.sink c.write_last.new.self c.args.self.now.acks c.write_acks.new.acks c.name.result.now c.bytes.result.now c.args.acks.now (rw c.bytes.ensures c.in-Ok.ensures) c.in-Ok-write_last.ensures c.write_acks.result c.write_acks.ensures)

pub returns-in-Ok-write_last-clause-written : goal.returns-in-Ok-write_last-clause-written
returns-in-Ok-write_last-clause-written g c = on_any c.write_acks.result c.in-Ok-write_last.ensures.none

pub returns-in-Ok-write_last-clause-wants : goal.returns-in-Ok-write_last-clause-wants
returns-in-Ok-write_last-clause-wants g c = on_any c.write_acks.result (λ f r w. wants_kept c.args.self.now.sink c.write_last.new.self c.in-Ok-write_last.ensures.options_are c.in-Ok-write_last.ensures.added_is f r w)

pub returns-in-Ok-write_last-clause-err : goal.returns-in-Ok-write_last-clause-err
returns-in-Ok-write_last-clause-err g c =
    IfErr-weaker c.write_acks.result _ _ (λ e f first l before has. f first.sink first.acks l before has.0 has.1)
    (acks_unwritten g.W.Write.contents g.A.Write.contents c.args.self.now.sink c.write_last.new.self c.args.self.now.acks c.write_acks.new.acks c.name.result.now c.bytes.result.now c.args.acks.now (rw c.bytes.ensures c.in-Ok.ensures) c.in-Ok-write_last.ensures c.write_acks.result c.write_acks.ensures)

pub returns-clause-err : goal.returns-clause-err
returns-clause-err g c = λ first l before has.
    fails_cut g.W.Write.contents g.A.Write.contents first.sink c.args.self.now.sink c.write_last.new.self first.acks c.args.self.now.acks l before has.0 has.1 c.name.result.now c.bytes.result.now (rw c.bytes.ensures c.in-Ok.ensures) c.in-Err.ensures
