use Rattle.changes_commands.proofs.GrowingLemmas.{longer_then}
use Rattle.changes_walks.proofs.words.put_up_to.Goals as goal

pub returns-in-Some : goal.returns-in-Some
returns-in-Some c =
    let last = c.words-in-Some.new.self in
    rw c.in-Some.is (longer_then c.args.out.now c.words.new.self last _ _ c.words.ensures
    (longer_then c.words.new.self c.unsigned.new.self last _ _ (rw c.from.ensures at c.unsigned.ensures) c.words-in-Some.ensures))
