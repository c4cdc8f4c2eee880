use Rattle.changes_commands.proofs.GrowingLemmas.{longer_then}
use Rattle.changes_walks.proofs.words.put_cause.Goals as goal

pub returns-then-stop : goal.returns-then-stop
returns-then-stop c =
    let last = c.unsigned-then-stop.new.self in
    rw c.if-stop.true (longer_then c.args.out.now c.words.new.self last _ _ c.words.ensures
    (longer_then c.words.new.self c.unsigned.new.self last _ _ c.unsigned.ensures
    (longer_then c.unsigned.new.self c.words-then-stop.new.self last _ _ c.words-then-stop.ensures c.unsigned-then-stop.ensures)))
