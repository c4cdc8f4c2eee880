use Rattle.changes_commands.proofs.GrowingLemmas.{longer_then}
use Rattle.changes_walks.proofs.words.put_gap.Goals as goal

pub returns : goal.returns
returns c =
    let last = c.words-5.new.self in
    longer_then c.args.out.now c.words.new.self last _ _ c.words.ensures
    (longer_then c.words.new.self c.text.new.self last _ _ c.text.ensures
    (longer_then c.text.new.self c.words-2.new.self last _ _ c.words-2.ensures
    (longer_then c.words-2.new.self c.unsigned.new.self last _ _ c.unsigned.ensures
    (longer_then c.unsigned.new.self c.words-3.new.self last _ _ c.words-3.ensures
    (longer_then c.words-3.new.self c.unsigned-2.new.self last _ _ c.unsigned-2.ensures
    (longer_then c.unsigned-2.new.self c.words-4.new.self last _ _ c.words-4.ensures
    (longer_then c.words-4.new.self c.string.new.self last _ _ c.string.ensures c.words-5.ensures)))))))
