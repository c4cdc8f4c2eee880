use Rattle.std.proofs.Common.{refl}
use Rattle.changes_commands.proofs.GrowingLemmas.{longer_then}
use Rattle.changes_walks.proofs.words.put_event.Goals as goal

pub returns-in-Some : goal.returns-in-Some
returns-in-Some c =
    let last = c.words-in-Some-2.new.self in
    let type = c.put_type.ensures in (
      _,
      rw c.in-Some.is (type.0, refl),
      longer_then c.args.out.now c.words.new.self last _ _ c.words.ensures
          (longer_then c.words.new.self c.put_type.new.out last _ _ type.1
          (longer_then c.put_type.new.out c.words-in-Some.new.self last _ _ c.words-in-Some.ensures
          (longer_then c.words-in-Some.new.self c.unsigned.new.self last _ _ (rw (c.from.ensures, c.event_size.ensures) at c.unsigned.ensures) c.words-in-Some-2.ensures))),
    )
