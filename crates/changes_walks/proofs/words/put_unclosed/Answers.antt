use Rattle.changes_commands.proofs.GrowingLemmas.{longer_then}
use Rattle.changes_walks.proofs.words.put_unclosed.Goals as goal

pub returns : goal.returns
returns c =
    let last = c.words-4.new.self in
    longer_then c.args.out.now c.words.new.self last _ _ c.words.ensures
    (longer_then c.words.new.self c.words-2.new.self last _ _ c.words-2.ensures
    (longer_then c.words-2.new.self c.words-3.new.self last _ _ c.words-3.ensures
    (longer_then c.words-3.new.self c.unsigned.new.self last _ _ c.unsigned.ensures c.words-4.ensures)))
