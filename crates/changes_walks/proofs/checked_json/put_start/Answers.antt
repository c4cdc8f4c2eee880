use Rattle.changes_commands.proofs.GrowingLemmas.{longer_then}
use Rattle.changes_walks.proofs.checked_json.put_start.Goals as goal

pub returns : goal.returns
returns c =
    let last = c.string-2.new.self in
    longer_then c.args.out.now c.words.new.self last _ _ c.words.ensures
    (longer_then c.words.new.self c.string.new.self last _ _ c.string.ensures
    (longer_then c.string.new.self c.words-2.new.self last _ _ c.words-2.ensures (rw c.name_of.ensures at c.string-2.ensures)))
