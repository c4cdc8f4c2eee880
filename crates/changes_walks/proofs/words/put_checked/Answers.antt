use Rattle.std.proofs.Common.{refl}
use Rattle.changes_commands.proofs.GrowingLemmas.{longer_then}
use Rattle.changes_walks.proofs.words.put_checked.Goals as goal

pub returns : goal.returns
returns c =
    let last = c.push.new.self in
    let place = c.put_place.ensures in (
      _,
      (place.0, place.1, refl),
      longer_then c.args.out.now c.words.new.self last _ _ c.words.ensures
          (longer_then c.words.new.self c.words-2.new.self last _ _ c.words-2.ensures
          (longer_then c.words-2.new.self c.put_cause.new.out last _ _ c.put_cause.ensures
          (longer_then c.put_cause.new.out c.put_up_to.new.out last _ _ c.put_up_to.ensures
          (longer_then c.put_up_to.new.out c.put_place.new.out last _ _ place.2
          (longer_then c.put_place.new.out c.put_gaps.new.out last _ _ c.put_gaps.ensures
          (longer_then c.put_gaps.new.out c.put_transactions.new.out last _ _ c.put_transactions.ensures
          (longer_then c.put_transactions.new.out c.put_open.new.out last _ _ c.put_open.ensures
          (longer_then c.put_open.new.out c.put_advice.new.out last _ _ c.put_advice.ensures c.push.ensures)))))))),
    )
