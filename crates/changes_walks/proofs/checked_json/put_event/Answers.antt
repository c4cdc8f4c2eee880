use Rattle.std.proofs.Common.{refl}
use Rattle.changes_commands.proofs.GrowingLemmas.{longer_then}
use Rattle.changes_walks.proofs.checked_json.put_event.Goals as goal

pub returns-in-Some : goal.returns-in-Some
returns-in-Some c =
    let last = c.put_labelled.new.out in
    let type = c.put_type.ensures in (
      _,
      rw c.in-Some.is (type.0, refl),
      longer_then c.args.out.now c.words.new.self last _ _ c.words.ensures
          (longer_then c.words.new.self c.put_type.new.out last _ _ type.1 (rw (c.from.ensures, c.event_size.ensures) at c.put_labelled.ensures)),
    )
