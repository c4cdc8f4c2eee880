use Rattle.changes_commands.proofs.GrowingLemmas.{longer_then}
use Rattle.program_changes.proofs.reached.Reached.put.Goals as goal

pub returns : goal.returns
returns g c =
    let first = c.args.out.now in
    let last = c.words-3.new.self in
    longer_then first c.words.new.self last _ _ c.words.ensures
    (longer_then c.words.new.self c.text.new.self last _ _ c.text.ensures
    (longer_then c.text.new.self c.words-2.new.self last _ _ c.words-2.ensures
    (longer_then c.words-2.new.self c.unsigned.new.self last _ _ (rw c.from.ensures at c.unsigned.ensures) c.words-3.ensures)))
